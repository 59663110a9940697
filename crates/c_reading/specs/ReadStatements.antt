-- Reading lists of statements in C-syntax: what stands open is a stack, and each word, bracket or part takes one step ("A PlusCal User's Manual, C-Syntax Version", appendix A).
use Rattle.std.specs.Prelude.{◌≡◌, ℕ, zero, suc, ◌+◌, Bool, true, false, List, [], ◌∷◌, Option, Some, None, codes}
use Rattle.tla_token.specs.declared.place.Place.{Place}
use Rattle.tla_token.specs.Places.{nowhere}
use Rattle.tla_tree.specs.Tree.{Word, Name}
use Rattle.tla_tree.specs.Lexical.{TokenView, Token}
use Rattle.tla_tree.specs.Lexical as tk
use Rattle.tla_tree.specs.Spelling.{Phrase}
use Rattle.tla_tree.specs.Reader.{Reader, ◌>>=◌, gives, refuses, skip}
use Rattle.pcal_tree.specs.GrammarParts.{key, mark, Labels, no_labels, Binds, Simple}
use Rattle.pcal_tree.specs.GrammarC.{simple, branch, either, with, while, compound, Labelled, labelled, Else, no_else, else_then, Branches, last_branch, more_branches, Sequence, last_statement, more_statements, labelled_ends_in_block}
use Rattle.pcal_tree.specs.OpenForms.{after_binds}
use Rattle.syntax_reading.specs.TokenReaders.{by_next, a_mark, pick, Parts}
use Rattle.syntax_reading.specs.ReadParts.{read_colon, read_binds}
use Rattle.syntax_reading.specs.ReadAround.{with_label, within}
use Rattle.syntax_reading.specs.ReadSimple.{named_by, simple_words}

-- ---- what was read

-- the statements of a list before the one that is read, each with its `;`
pub data Before : Type 0 where
  none : Before
  after : Before → Labelled → Option Place → Before

-- the branches of an `either` before the one that is read, each with the `;` before the next `or`; first the labels of the whole
pub data Arms : Type 0 where
  first_arm : Labels → Place → Arms  -- either
  later_arm : Arms → Labelled → Option Place → Place → Arms  -- .. or

-- what stands before the statement of an `if`
pub data Test : Type 0 where
  if_test : Place → Place → Phrase → Place → Test  -- if (e)

-- and of a `with` or a `while`, which end where it does
pub data Opening : Type 0 where
  with_opening : Place → Place → Binds → Place → Opening  -- with (x \in e)
  while_opening : Place → Place → Phrase → Place → Opening  -- while (e)

-- what stands open, the innermost first, each with its labels: its next part is a statement
pub data Stack : Type 0 where
  bottom : Before → Stack
  in_block : Labels → Place → Before → Stack → Stack  -- { ..
  in_then : Labels → Test → Stack → Stack
  in_else : Labels → Test → Labelled → Option Place → Place → Stack → Stack  -- .. else
  in_body : Labels → Opening → Stack → Stack
  in_either : Arms → Stack → Stack

-- how many forms are open: one for each brace, test, branch, bind and loop
abbrev pub depth : Stack → ℕ
depth (bottom b) = 0
depth (in_block ls p b st) = depth st + 1
depth (in_then ls t st) = depth st + 1
depth (in_else ls t a s p st) = depth st + 1
depth (in_body ls (with_opening p q bs r) st) = after_binds (depth st) bs
depth (in_body ls (while_opening p q e r) st) = depth st + 1
depth (in_either t st) = depth st + 1

pub data State : Type 0 where
  begin : Labels → Stack → State  -- a statement comes, after these labels
  ended : Labelled → Option Place → Stack → State  -- after a statement, and with a place after its `;`

-- where a step goes
pub data Turn : Type 0 where
  on : State → Turn
  done : Sequence → Turn

-- ---- parts together
abbrev pub with_before : Before → Sequence → Sequence
with_before none ss = ss
with_before (after b a s) ss = with_before b (more_statements a s ss)

abbrev pub joined : Arms → Labelled → Branches → Labelled
joined (first_arm ls p) a bs = labelled ls (either p a bs)
joined (later_arm t c s p) a bs = joined t c (more_branches s p a bs)

abbrev pub tested : Labels → Test → Labelled → Else → Labelled
tested ls (if_test p q e r) a b = labelled ls (branch p q e r a b)

abbrev pub opened : Labels → Opening → Labelled → Labelled
opened ls (with_opening p q bs r) a = labelled ls (with p q bs r a)
opened ls (while_opening p q e r) a = labelled ls (while p q e r a)

-- ---- a statement comes
-- where one comes, an `or` must stand right after it
abbrev pub before_or : Stack → Bool
before_or (bottom b) = false
before_or (in_block ls p b st) = false
before_or (in_then ls t st) = false
before_or (in_else ls t a s p st) = before_or st
before_or (in_body ls o st) = before_or st
before_or (in_either (first_arm ls p) st) = true
before_or (in_either (later_arm t a s p) st) = false

abbrev pub opens : Stack → Turn
opens st = on (begin no_labels st)

-- an `either` would take that `or`
abbrev pub either_if : Bool → Parts → Labels → Place → Stack → Reader Turn
either_if true m ls p st = refuses
either_if false m ls p st = within m (depth st) (gives (opens (in_either (first_arm ls p) st)))

abbrev pub ends_simple : Labels → Stack → Reader Simple → Reader Turn
ends_simple ls st r = r >>= λ s. gives (on (ended (labelled ls (simple s)) None st))

-- after a name: it is a label's where a colon comes
abbrev pub after_name : Parts → ℕ → Labels → Stack → Name → Place → TokenView → Reader Turn
after_name m n ls st x p (tk.mark tk.colon) = read_colon >>= λ c. gives (on (begin (with_label ls x c) st))
after_name m n ls st x p k = ends_simple ls st (named_by m n x p k)

-- ( .. )
abbrev pub bracketed : {A : Type 0} → Reader A → (Place → A → Place → Turn) → Reader Turn
bracketed r f = a_mark tk.open_bracket >>= λ q. r >>= λ x. a_mark tk.close_bracket >>= λ s. gives (f q x s)

abbrev pub statement_words : Parts → ℕ → Labels → Stack → Place → List (Word × Reader Turn)
statement_words m n ls st p =
    (codes "if", within m (depth st) (bracketed m.expr (λ q e r. opens (in_then ls (if_test p q e r) st))))
    ∷ (codes "either", either_if (before_or st) m ls p st)
    ∷ (codes "with", skip (bracketed (read_binds m n (depth st)) (λ q bs r. opens (in_body ls (with_opening p q bs r) st))))
    ∷ (codes "while", within m (depth st) (bracketed m.expr (λ q e r. opens (in_body ls (while_opening p q e r) st))))
    ∷ []

abbrev pub statement_by : Parts → ℕ → Labels → Stack → Place → TokenView → Reader Turn
statement_by m n ls st p (tk.word x) = skip (by_next (after_name m n ls st (record { place = p; word = x })))
statement_by m n ls st p (tk.reserved w) = pick w (statement_words m n ls st p) (ends_simple ls st (pick w (simple_words m p) refuses))
statement_by m n ls st p (tk.mark tk.open_brace) = within m (depth st) (gives (opens (in_block ls p none st)))
statement_by m n ls st p k = refuses

-- ---- after a statement: what is asked for by the next token
pub data Ask : Type 0 where
  ask_else : Ask
  ask_or : Ask
  ask_other : Ask

-- what ends here ends, up to the one that takes it: the statement that is read there, and what stands open
abbrev pub closed : Ask → Labelled → Stack → Option (Labelled × Stack)
closed ask_other a (bottom b) = Some (a, bottom b)
closed q a (bottom b) = None
closed ask_other a (in_block ls p b st) = Some (a, in_block ls p b st)
closed q a (in_block ls p b st) = None
closed ask_else a (in_then ls t st) = Some (a, in_then ls t st)
closed ask_or a (in_then ls t st) = closed ask_or (tested ls t a no_else) st
closed ask_other a (in_then ls t st) = closed ask_other (tested ls t a no_else) st
closed q a (in_else ls t c s p st) = closed q (tested ls t c (else_then s p a)) st
closed q a (in_body ls o st) = closed q (opened ls o a) st
closed ask_or a (in_either t st) = Some (a, in_either t st)
closed ask_else a (in_either (first_arm ls p) st) = None
closed ask_else a (in_either (later_arm t c s p) st) = closed ask_else (joined t c (last_branch s p a)) st
closed ask_other a (in_either (first_arm ls p) st) = None
closed ask_other a (in_either (later_arm t c s p) st) = closed ask_other (joined t c (last_branch s p a)) st

abbrev pub takes_else : Option Place → Place → Option (Labelled × Stack) → Reader Turn
takes_else s p (Some (a, in_then ls t st)) = skip (gives (opens (in_else ls t a s p st)))
takes_else s p o = refuses

abbrev pub takes_or : Option Place → Place → Option (Labelled × Stack) → Reader Turn
takes_or s p (Some (a, in_either t st)) = skip (gives (opens (in_either (later_arm t a s p) st)))
takes_or s p o = refuses

abbrev pub closing_words : Labelled → Option Place → Stack → Place → List (Word × Reader Turn)
closing_words a s st p = (codes "else", takes_else s p (closed ask_else a st)) ∷ (codes "or", takes_or s p (closed ask_or a st)) ∷ []

-- another statement may come after a `;`, or after a `{..}`
abbrev pub is_divided : Option Place → Labelled → Bool
is_divided (Some p) a = true
is_divided None a = labelled_ends_in_block a

abbrev pub another_if : Bool → Reader Turn → Reader Turn
another_if true r = r
another_if false r = refuses

-- in a list; at the bottom the `}` stays
abbrev pub list_by : Parts → ℕ → Option Place → Place → TokenView → Option (Labelled × Stack) → Reader Turn
list_by m n s p (tk.mark tk.close_brace) (Some (a, bottom b)) = gives (done (with_before b (last_statement a s)))
list_by m n s p (tk.mark tk.close_brace) (Some (a, in_block ls q b st)) = skip (gives (on (ended (labelled ls (compound q (with_before b (last_statement a s)) p)) None st)))
list_by m n s p k (Some (a, bottom b)) = another_if (is_divided s a) (statement_by m n no_labels (bottom (after b a s)) p k)
list_by m n s p k (Some (a, in_block ls q b st)) = another_if (is_divided s a) (statement_by m n no_labels (in_block ls q (after b a s) st) p k)
list_by m n s p k o = refuses

abbrev pub ended_by : Parts → ℕ → Labelled → Option Place → Stack → Place → TokenView → Reader Turn
ended_by m n a None st p (tk.mark tk.semicolon) = skip (gives (on (ended a (Some p) st)))
ended_by m n a s st p (tk.reserved w) = pick w (closing_words a s st p) (list_by m n s p (tk.reserved w) (closed ask_other a st))
ended_by m n a s st p k = list_by m n s p k (closed ask_other a st)

abbrev pub step : Parts → ℕ → State → Reader Turn
step m n (begin ls st) = by_next (statement_by m n ls st)
step m n (ended a s st) = by_next (ended_by m n a s st)

-- ---- all steps; lists in them have at most as many members
abbrev pub turned : (State → Reader Sequence) → Turn → Reader Sequence
turned r (on s) = r s
turned r (done ss) = gives ss

abbrev pub run : Parts → ℕ → State → Reader Sequence
run m zero s = refuses
run m (suc n) s = step m n s >>= turned (run m n)

-- up to the `}` after it
abbrev pub read_sequence : Parts → ℕ → Reader Sequence
read_sequence m n = run m n (begin no_labels (bottom none))

-- ---- what closes what stands open
-- each `either` stands where no `or` must come right after it
abbrev pub AreApart : Stack → Type 0
AreApart (bottom b) = Unit {0}
AreApart (in_block ls p b st) = AreApart st
AreApart (in_then ls t st) = AreApart st
AreApart (in_else ls t a s p st) = AreApart st
AreApart (in_body ls o st) = AreApart st
AreApart (in_either t st) = (before_or st ≡ false) × AreApart st

-- after a statement: an `if` gets an `else`, and the first branch of an `either` another one
abbrev pub closing : Stack → List Token
closing (bottom b) = []
closing (in_block ls p b st) = mark nowhere tk.close_brace (closing st)
closing (in_then ls t st) = key nowhere (codes "else") (key nowhere (codes "skip") (closing st))
closing (in_else ls t a s p st) = closing st
closing (in_body ls o st) = closing st
closing (in_either (first_arm ls p) st) = key nowhere (codes "or") (key nowhere (codes "skip") (closing st))
closing (in_either (later_arm t a s p) st) = closing st

-- up to the `}` after the list
abbrev pub rest : State → List Token
rest (begin ls st) = key nowhere (codes "skip") (closing st)
rest (ended a s st) = closing st

abbrev pub open_stack : State → Stack
open_stack (begin ls st) = st
open_stack (ended a s st) = st
