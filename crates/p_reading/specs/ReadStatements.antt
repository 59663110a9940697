-- Reading lists of statements in P-syntax: what stands open is a stack, and each word or part takes one step ("A PlusCal User's Manual, P-Syntax Version", appendix A).
use Rattle.std.specs.Prelude.{ℕ, zero, suc, ◌+◌, List, [], ◌∷◌, Option, Some, None, codes}
use Rattle.tla_token.specs.declared.place.Place.{Place}
use Rattle.tla_token.specs.Places.{nowhere}
use Rattle.tla_tree.specs.Tree.{Word, Name}
use Rattle.tla_tree.specs.Lexical.{TokenView, Token}
use Rattle.tla_tree.specs.Lexical as tk
use Rattle.tla_tree.specs.Spelling.{Phrase}
use Rattle.tla_tree.specs.Reader.{Reader, ◌>>=◌, gives, refuses, skip}
use Rattle.pcal_tree.specs.GrammarParts.{key, Labels, no_labels, Binds, Simple}
use Rattle.pcal_tree.specs.GrammarP.{Statement, simple, branch, either, with, while, Else, no_else, else_then, else_if, Branches, last_branch, more_branches, Sequence, last_statement, more_statements}
use Rattle.pcal_tree.specs.OpenForms.{after_binds}
use Rattle.syntax_reading.specs.TokenReaders.{by_next, a_key, pick, Parts}
use Rattle.syntax_reading.specs.ReadParts.{read_colon, read_binds}
use Rattle.syntax_reading.specs.ReadAround.{with_label, within}
use Rattle.syntax_reading.specs.ReadSimple.{named_by, simple_words}

-- ---- what was read

-- the statements of a list before the one that is read, each with its labels and its `;`
pub data Before : Type 0 where
  none : Before
  after : Before → Labels → Statement → Place → Before

-- the tests of an `if` so far, and between them what their `then` has
pub data Tests : Type 0 where
  if_test : Place → Phrase → Place → Tests  -- if e then
  elsif_test : Tests → Sequence → Place → Phrase → Place → Tests  -- .. elsif e then

-- the branches of an `either` before the one that is read
pub data Arms : Type 0 where
  first_arm : Place → Arms  -- either
  later_arm : Arms → Sequence → Place → Arms  -- .. or

-- a statement that stands open: its next part is a list
pub data Frame : Type 0 where
  in_then : Tests → Frame
  in_else : Tests → Sequence → Place → Frame  -- .. else
  in_either : Arms → Frame
  in_with : Place → Binds → Place → Frame  -- with x \in e do
  in_while : Place → Phrase → Place → Frame  -- while e do

-- what stands open, the innermost first, each with what is before it in its list and with its labels
pub data Stack : Type 0 where
  bottom : Stack
  inside : Frame → Before → Labels → Stack → Stack

-- how many forms are open inside it: one for each test, branch, bind and loop
abbrev pub after_tests : ℕ → Tests → ℕ
after_tests d (if_test p e q) = d + 1
after_tests d (elsif_test t a p e q) = after_tests d t + 1

abbrev pub inside_frame : ℕ → Frame → ℕ
inside_frame d (in_then t) = after_tests d t
inside_frame d (in_else t a p) = after_tests d t
inside_frame d (in_either t) = d + 1
inside_frame d (in_with p bs q) = after_binds d bs
inside_frame d (in_while p e q) = d + 1

abbrev pub depth : Stack → ℕ
depth bottom = 0
depth (inside f b ls st) = inside_frame (depth st) f

pub data State : Type 0 where
  begin : Before → Labels → Stack → State  -- a statement comes, after these labels
  ended : Before → Labels → Statement → Option Place → Stack → State  -- after a statement, and with a place after its `;`

-- where a step goes
pub data Turn : Type 0 where
  on : State → Turn
  done : Sequence → Turn

-- ---- parts together
abbrev pub with_before : Before → Sequence → Sequence
with_before none ss = ss
with_before (after b ls a p) ss = with_before b (more_statements ls a p ss)

abbrev pub closed_if : Tests → Sequence → Else → Place → Place → Statement
closed_if (if_test p e q) a b r s = branch p e q a b r s
closed_if (elsif_test t c p e q) a b r s = closed_if t c (else_if p e q a b) r s

abbrev pub closed_either : Arms → Sequence → Branches → Place → Place → Statement
closed_either (first_arm p) a bs r s = either p a bs r s
closed_either (later_arm t c p) a bs r s = closed_either t c (more_branches p a bs) r s

-- ---- a statement comes
-- in a new list
abbrev pub opens : Frame → Before → Labels → Stack → Turn
opens f b ls st = on (begin none no_labels (inside f b ls st))

abbrev pub ends_simple : Before → Labels → Stack → Reader Simple → Reader Turn
ends_simple b ls st r = r >>= λ s. gives (on (ended b ls (simple s) None st))

-- after a name: it is a label's where a colon comes
abbrev pub after_name : Parts → ℕ → Before → Labels → Stack → Name → Place → TokenView → Reader Turn
after_name m n b ls st x p (tk.mark tk.colon) = read_colon >>= λ c. gives (on (begin b (with_label ls x c) st))
after_name m n b ls st x p k = ends_simple b ls st (named_by m n x p k)

abbrev pub statement_words : Parts → ℕ → Before → Labels → Stack → Place → List (Word × Reader Turn)
statement_words m n b ls st p =
    (codes "if", within m (depth st) (m.expr >>= λ e. a_key (codes "then") >>= λ q. gives (opens (in_then (if_test p e q)) b ls st)))
    ∷ (codes "either", within m (depth st) (gives (opens (in_either (first_arm p)) b ls st)))
    ∷ (codes "with", skip (read_binds m n (depth st) >>= λ bs. a_key (codes "do") >>= λ q. gives (opens (in_with p bs q) b ls st)))
    ∷ (codes "while", within m (depth st) (m.expr >>= λ e. a_key (codes "do") >>= λ q. gives (opens (in_while p e q) b ls st)))
    ∷ []

abbrev pub statement_by : Parts → ℕ → Before → Labels → Stack → Place → TokenView → Reader Turn
statement_by m n b ls st p (tk.word x) = skip (by_next (after_name m n b ls st (record { place = p; word = x })))
statement_by m n b ls st p (tk.reserved w) = pick w (statement_words m n b ls st p) (ends_simple b ls st (pick w (simple_words m p) refuses))
statement_by m n b ls st p k = refuses

-- ---- a list ends
-- at `else`, `elsif` and `or`, the innermost must be the one that takes it
abbrev pub takes_else : Sequence → Place → Stack → Reader Turn
takes_else a p (inside (in_then t) b ls st) = skip (gives (opens (in_else t a p) b ls st))
takes_else a p st = refuses

abbrev pub takes_elsif : Parts → Sequence → Place → Stack → Reader Turn
takes_elsif m a p (inside (in_then t) b ls st) = within m (after_tests (depth st) t) (m.expr >>= λ e. a_key (codes "then") >>= λ q. gives (opens (in_then (elsif_test t a p e q)) b ls st))
takes_elsif m a p st = refuses

abbrev pub takes_or : Sequence → Place → Stack → Reader Turn
takes_or a p (inside (in_either t) b ls st) = skip (gives (opens (in_either (later_arm t a p)) b ls st))
takes_or a p st = refuses

-- past `end` and the word of what ends
abbrev pub ends : Word → (Place → Statement) → Before → Labels → Stack → Reader Turn
ends w f b ls st = skip (a_key w >>= λ q. gives (on (ended b ls (f q) None st)))

-- at the bottom, the word stays
abbrev pub takes_end : Sequence → Place → Stack → Reader Turn
takes_end a p bottom = gives (done a)
takes_end a p (inside (in_then t) b ls st) = ends (codes "if") (closed_if t a no_else p) b ls st
takes_end a p (inside (in_else t c r) b ls st) = ends (codes "if") (closed_if t c (else_then r a) p) b ls st
takes_end a p (inside (in_either (first_arm r)) b ls st) = refuses
takes_end a p (inside (in_either (later_arm t c r)) b ls st) = ends (codes "either") (closed_either t c (last_branch r a) p) b ls st
takes_end a p (inside (in_with r bs s) b ls st) = ends (codes "with") (with r bs s a p) b ls st
takes_end a p (inside (in_while r e s) b ls st) = ends (codes "while") (while r e s a p) b ls st

abbrev pub closing_words : Parts → Sequence → Place → Stack → List (Word × Reader Turn)
closing_words m a p st = (codes "else", takes_else a p st) ∷ (codes "elsif", takes_elsif m a p st) ∷ (codes "or", takes_or a p st) ∷ (codes "end", takes_end a p st) ∷ []

-- ---- after a statement
-- after its `;` another one may come
abbrev pub another_by : Parts → ℕ → Before → Labels → Statement → Option Place → Stack → Place → TokenView → Reader Turn
another_by m n b ls a (Some s) st p k = statement_by m n (after b ls a s) no_labels st p k
another_by m n b ls a None st p (tk.mark tk.semicolon) = skip (gives (on (ended b ls a (Some p) st)))
another_by m n b ls a None st p k = refuses

abbrev pub ended_by : Parts → ℕ → Before → Labels → Statement → Option Place → Stack → Place → TokenView → Reader Turn
ended_by m n b ls a o st p (tk.reserved w) = pick w (closing_words m (with_before b (last_statement ls a o)) p st) (another_by m n b ls a o st p (tk.reserved w))
ended_by m n b ls a o st p k = another_by m n b ls a o st p k

abbrev pub step : Parts → ℕ → State → Reader Turn
step m n (begin b ls st) = by_next (statement_by m n b ls st)
step m n (ended b ls a o st) = by_next (ended_by m n b ls a o st)

-- ---- all steps; lists in them have at most as many members
abbrev pub turned : (State → Reader Sequence) → Turn → Reader Sequence
turned r (on s) = r s
turned r (done ss) = gives ss

abbrev pub run : Parts → ℕ → State → Reader Sequence
run m zero s = refuses
run m (suc n) s = step m n s >>= turned (run m n)

-- up to the `end` after it
abbrev pub read_sequence : Parts → ℕ → Reader Sequence
read_sequence m n = run m n (begin none no_labels bottom)

-- ---- what closes what stands open
abbrev pub ends_with : Word → List Token → List Token
ends_with w ts = key nowhere (codes "end") (key nowhere w ts)

-- after a statement; the first branch of an `either` wants another one
abbrev pub closing : Stack → List Token
closing bottom = []
closing (inside (in_then t) b ls st) = ends_with (codes "if") (closing st)
closing (inside (in_else t a p) b ls st) = ends_with (codes "if") (closing st)
closing (inside (in_either (first_arm p)) b ls st) = key nowhere (codes "or") (key nowhere (codes "skip") (ends_with (codes "either") (closing st)))
closing (inside (in_either (later_arm t a p)) b ls st) = ends_with (codes "either") (closing st)
closing (inside (in_with p bs q) b ls st) = ends_with (codes "with") (closing st)
closing (inside (in_while p e q) b ls st) = ends_with (codes "while") (closing st)

-- up to the `end` after the list
abbrev pub rest : State → List Token
rest (begin b ls st) = key nowhere (codes "skip") (closing st)
rest (ended b ls a o st) = closing st

abbrev pub open_in : State → ℕ
open_in (begin b ls st) = depth st
open_in (ended b ls a o st) = depth st
