-- What is read is spelled: each state says which tokens were passed, and a step goes to one that says no others.
use Rattle.std.proofs.Common.{◌≡◌, ℕ, zero, suc, ◌+◌, List, Option, Some, None, refl, sym, ap, codes}
use Rattle.tla_token.specs.declared.place.Place.{Place}
use Rattle.tla_tree.specs.Tree.{Word, Name}
use Rattle.tla_tree.specs.Lexical.{TokenView, Token}
use Rattle.tla_tree.specs.Lexical as tk
use Rattle.tla_tree.specs.Spelling.{spell, IsGood}
use Rattle.tla_tree.specs.Reader.{Reader, refuses}
use Rattle.pcal_tree.specs.GrammarParts.{name, key, semicolon, maybe_semicolon, Labels, no_labels, labels, binds, GoodBinds, Simple, simple_tokens, GoodSimple}
use Rattle.pcal_tree.specs.GrammarP.{Statement, simple, with, while, Else, no_else, else_then, else_if, Branches, last_branch, more_branches, Sequence, last_statement, more_statements}
use Rattle.pcal_tree.specs.GrammarP.{statement, else_tokens, branches, sequence, GoodStatement, GoodElse, GoodBranches, GoodSequence}
use Rattle.syntax_reading.specs.TokenReaders.{Parts, pick}
use Rattle.syntax_reading.specs.ReadSimple.{simple_words}
use Rattle.syntax_reading.proofs.Sound.{Sound, SoundAt, here, AllSound, sound_gives, sound_refuses, sound_bind, sound_after, sound_next, sound_stays, sound_past, sound_then, sound_same, sound_pick, sound_key, sound_fits}
use Rattle.syntax_reading.proofs.SoundParts.{SoundParts, colon_sound, binds_sound}
use Rattle.syntax_reading.proofs.SoundSimple.{named_sound, words_sound}
use Rattle.syntax_reading.specs.ReadAround.{with_label, within}
use Rattle.syntax_reading.proofs.WithLabel.{with_label_tokens}
use Rattle.p_reading.specs.ReadStatements.{Before, none, after, Tests, if_test, elsif_test, Arms, first_arm, later_arm, Frame, in_then, in_else, in_either, in_with, in_while, Stack, bottom, inside, State, begin, ended, Turn, on, done, with_before, closed_if, closed_either, depth, after_tests}
use Rattle.p_reading.specs.ReadStatements.{opens, ends_simple, after_name, statement_words, statement_by, takes_else, takes_elsif, takes_or, ends, takes_end, closing_words, another_by, ended_by, step, turned, run, read_sequence}

-- ---- the tokens that were passed, before others
abbrev pub before : Before → List Token → List Token
before none ts = ts
before (after b ls a p) ts = before b (labels ls (statement a (semicolon p ts)))

abbrev pub tests : Tests → List Token → List Token
tests (if_test p e q) ts = key p (codes "if") (spell e (key q (codes "then") ts))
tests (elsif_test t a p e q) ts = tests t (sequence a (key p (codes "elsif") (spell e (key q (codes "then") ts))))

abbrev pub arms : Arms → List Token → List Token
arms (first_arm p) ts = key p (codes "either") ts
arms (later_arm t a p) ts = arms t (sequence a (key p (codes "or") ts))

abbrev pub frame : Frame → List Token → List Token
frame (in_then t) ts = tests t ts
frame (in_else t a p) ts = tests t (sequence a (key p (codes "else") ts))
frame (in_either t) ts = arms t ts
frame (in_with p bs q) ts = key p (codes "with") (binds bs (key q (codes "do") ts))
frame (in_while p e q) ts = key p (codes "while") (spell e (key q (codes "do") ts))

abbrev pub stack : Stack → List Token → List Token
stack bottom ts = ts
stack (inside f b ls st) ts = stack st (before b (labels ls (frame f ts)))

abbrev pub passed : State → List Token → List Token
passed (begin b ls st) ts = stack st (before b (labels ls ts))
passed (ended b ls a o st) ts = stack st (before b (labels ls (statement a (maybe_semicolon o ts))))

abbrev pub turn : Turn → List Token → List Token
turn (on s) ts = passed s ts
turn (done ss) ts = sequence ss ts

-- ---- what was read is good
abbrev pub GoodBefore : Before → Type 0
GoodBefore none = Unit {0}
GoodBefore (after b ls a p) = GoodBefore b × GoodStatement a

abbrev pub GoodTests : Tests → Type 0
GoodTests (if_test p e q) = IsGood e
GoodTests (elsif_test t a p e q) = GoodTests t × GoodSequence a × IsGood e

abbrev pub GoodArms : Arms → Type 0
GoodArms (first_arm p) = Unit {0}
GoodArms (later_arm t a p) = GoodArms t × GoodSequence a

abbrev pub GoodFrame : Frame → Type 0
GoodFrame (in_then t) = GoodTests t
GoodFrame (in_else t a p) = GoodTests t × GoodSequence a
GoodFrame (in_either t) = GoodArms t
GoodFrame (in_with p bs q) = GoodBinds bs
GoodFrame (in_while p e q) = IsGood e

abbrev pub GoodStack : Stack → Type 0
GoodStack bottom = Unit {0}
GoodStack (inside f b ls st) = GoodFrame f × GoodBefore b × GoodStack st

abbrev pub GoodState : State → Type 0
GoodState (begin b ls st) = GoodBefore b × GoodStack st
GoodState (ended b ls a o st) = GoodBefore b × GoodStatement a × GoodStack st

abbrev pub GoodTurn : Turn → Type 0
GoodTurn (on s) = GoodState s
GoodTurn (done ss) = GoodSequence ss

-- ---- parts together
pub with_before_tokens : (b : Before) (ss : Sequence) (ts : List Token) → sequence (with_before b ss) ts ≡ before b (sequence ss ts)
with_before_tokens none ss ts = refl
with_before_tokens (after b ls a p) ss ts = with_before_tokens b (more_statements ls a p ss) ts

pub with_before_good : (b : Before) (ss : Sequence) → GoodBefore b → GoodSequence ss → GoodSequence (with_before b ss)
with_before_good none ss g h = h
with_before_good (after b ls a p) ss g h = with_before_good b (more_statements ls a p ss) g.0 (g.1, h)

pub closed_if_tokens : (t : Tests) (a : Sequence) (b : Else) (r s : Place) (ts : List Token) → statement (closed_if t a b r s) ts ≡ tests t (sequence a (else_tokens b (key r (codes "end") (key s (codes "if") ts))))
closed_if_tokens (if_test p e q) a b r s ts = refl
closed_if_tokens (elsif_test t c p e q) a b r s ts = closed_if_tokens t c (else_if p e q a b) r s ts

pub closed_if_good : (t : Tests) (a : Sequence) (b : Else) (r s : Place) → GoodTests t → GoodSequence a → GoodElse b → GoodStatement (closed_if t a b r s)
closed_if_good (if_test p e q) a b r s g h i = (g, h, i)
closed_if_good (elsif_test t c p e q) a b r s g h i = closed_if_good t c (else_if p e q a b) r s g.0 g.1 (g.2, h, i)

pub closed_either_tokens : (t : Arms) (a : Sequence) (bs : Branches) (r s : Place) (ts : List Token) → statement (closed_either t a bs r s) ts ≡ arms t (sequence a (branches bs (key r (codes "end") (key s (codes "either") ts))))
closed_either_tokens (first_arm p) a bs r s ts = refl
closed_either_tokens (later_arm t c p) a bs r s ts = closed_either_tokens t c (more_branches p a bs) r s ts

pub closed_either_good : (t : Arms) (a : Sequence) (bs : Branches) (r s : Place) → GoodArms t → GoodSequence a → GoodBranches bs → GoodStatement (closed_either t a bs r s)
closed_either_good (first_arm p) a bs r s g h i = (h, i)
closed_either_good (later_arm t c p) a bs r s g h i = closed_either_good t c (more_branches p a bs) r s g.0 g.1 (h, i)

-- ---- a statement comes
abbrev Steps : (List Token → List Token) → Reader Turn → Type 0
Steps x r = Sound x GoodTurn turn r

abbrev StepsAt : Place → TokenView → (List Token → List Token) → Reader Turn → Type 0
StepsAt p k x r = SoundAt p k x GoodTurn turn r

-- what stands open here
abbrev at : Before → Labels → Stack → List Token → List Token
at b ls st ts = stack st (before b (labels ls ts))

module _ (m : Parts) (h : SoundParts m) where
  simple_ends : (b : Before) (ls : Labels) (st : Stack) → GoodBefore b → GoodStack st → {y : List Token → List Token} {r : Reader Simple} → Sound y GoodSimple simple_tokens r → Steps (λ ts. at b ls st (y ts)) (ends_simple b ls st r)
  simple_ends b ls st g i n = sound_after (at b ls st) n (λ s j. sound_gives (on (ended b ls (simple s) None st)) (g, j, i) (λ ts. refl))

  named_steps : (n : ℕ) (b : Before) (ls : Labels) (st : Stack) → GoodBefore b → GoodStack st → (x : Name) (p : Place) (k : TokenView) → StepsAt p k (λ ts. at b ls st (name x ts)) (after_name m n b ls st x p k)
  named_steps n b ls st g i x p (tk.mark tk.colon) =
      sound_stays (sound_bind colon_sound (λ c u. sound_gives (on (begin b (with_label ls x c) st)) (g, i) (λ ts. ap (λ (us : List Token). stack st (before b us)) (with_label_tokens ls x c ts))))
  named_steps n b ls st g i x p k = sound_stays (simple_ends b ls st g i (named_sound m h n x p k))

  -- past a word that opens a form
  open_step : {p : Place} {w : Word} {x : List Token → List Token} {r : Reader Turn} (d : ℕ) → Steps (λ ts. x (key p w ts)) r → StepsAt p (tk.reserved w) x (within m d r)
  open_step d i = sound_fits (m.room (d + 1)) (sound_past refl i)

  words_step : (n : ℕ) (b : Before) (ls : Labels) (st : Stack) → GoodBefore b → GoodStack st → (p : Place) → AllSound p (at b ls st) GoodTurn turn (statement_words m n b ls st p)
  words_step n b ls st g i p = (
    open_step (depth st) (sound_bind h.expr (λ e j. sound_bind (sound_key (codes "then")) (λ q u. sound_gives (opens (in_then (if_test p e q)) b ls st) (tt, (j, g, i)) (λ ts. refl)))),
    (
      open_step (depth st) (sound_gives (opens (in_either (first_arm p)) b ls st) (tt, (tt, g, i)) (λ ts. refl)),
      (
        sound_past refl (sound_bind (binds_sound m h n (depth st)) (λ bs j. sound_bind (sound_key (codes "do")) (λ q u. sound_gives (opens (in_with p bs q) b ls st) (tt, (j, g, i)) (λ ts. refl)))),
        (
          open_step (depth st) (sound_bind h.expr (λ e j. sound_bind (sound_key (codes "do")) (λ q u. sound_gives (opens (in_while p e q) b ls st) (tt, (j, g, i)) (λ ts. refl)))),
          tt,
        ),
      ),
    ),
  )

  statement_steps : (n : ℕ) (b : Before) (ls : Labels) (st : Stack) → GoodBefore b → GoodStack st → (p : Place) (k : TokenView) → StepsAt p k (at b ls st) (statement_by m n b ls st p k)
  statement_steps n b ls st g i p (tk.word x) = sound_past refl (sound_next (named_steps n b ls st g i (record { place = p; word = x })))
  statement_steps n b ls st g i p (tk.reserved w) =
      sound_pick w (statement_words m n b ls st p) (ends_simple b ls st (pick w (simple_words m p) refuses)) (words_step n b ls st g i p)
      (sound_then (at b ls st) (sound_pick w (simple_words m p) refuses (words_sound m h p) (sound_stays sound_refuses)) (λ s j. sound_gives (on (ended b ls (simple s) None st)) (g, j, i) (λ ts. refl)))
  statement_steps n b ls st g i p k = sound_stays sound_refuses

  -- ---- a list ends
  else_taken : (a : Sequence) → GoodSequence a → (p : Place) (st : Stack) → GoodStack st → StepsAt p (tk.reserved (codes "else")) (λ ts. stack st (sequence a ts)) (takes_else a p st)
  else_taken a j p (inside (in_then t) b ls st) g = sound_past refl (sound_gives (opens (in_else t a p) b ls st) (tt, ((g.0, j), g.1, g.2)) (λ ts. refl))
  else_taken a j p st g = sound_stays sound_refuses

  elsif_taken : (a : Sequence) → GoodSequence a → (p : Place) (st : Stack) → GoodStack st → StepsAt p (tk.reserved (codes "elsif")) (λ ts. stack st (sequence a ts)) (takes_elsif m a p st)
  elsif_taken a j p (inside (in_then t) b ls st) g =
      open_step (after_tests (depth st) t) (sound_bind h.expr (λ e k. sound_bind (sound_key (codes "then")) (λ q u. sound_gives (opens (in_then (elsif_test t a p e q)) b ls st) (tt, ((g.0, j, k), g.1, g.2)) (λ ts. refl))))
  elsif_taken a j p st g = sound_stays sound_refuses

  or_taken : (a : Sequence) → GoodSequence a → (p : Place) (st : Stack) → GoodStack st → StepsAt p (tk.reserved (codes "or")) (λ ts. stack st (sequence a ts)) (takes_or a p st)
  or_taken a j p (inside (in_either t) b ls st) g = sound_past refl (sound_gives (opens (in_either (later_arm t a p)) b ls st) (tt, ((g.0, j), g.1, g.2)) (λ ts. refl))
  or_taken a j p st g = sound_stays sound_refuses

  -- past `end` and its word
  end_taken : (w : Word) (f : Place → Statement) (b : Before) (ls : Labels) (st : Stack) → GoodBefore b → GoodStack st → ((q : Place) → GoodStatement (f q)) → (x : List Token → List Token) (p : Place)
      → ((q : Place) (ts : List Token) → statement (f q) ts ≡ x (key p (codes "end") (key q w ts))) → StepsAt p (tk.reserved (codes "end")) (λ ts. at b ls st (x ts)) (ends w f b ls st)
  end_taken w f b ls st g i j x p e = sound_past refl (sound_bind (sound_key w) (λ q u. sound_gives (on (ended b ls (f q) None st)) (g, j q, i) (λ ts. ap (at b ls st) (e q ts))))

  ends_taken : (a : Sequence) → GoodSequence a → (p : Place) (st : Stack) → GoodStack st → StepsAt p (tk.reserved (codes "end")) (λ ts. stack st (sequence a ts)) (takes_end a p st)
  ends_taken a j p bottom g = sound_stays (sound_gives (done a) j (λ ts. refl))
  ends_taken a j p (inside (in_then t) b ls st) g =
      end_taken (codes "if") (closed_if t a no_else p) b ls st g.1 g.2 (λ q. closed_if_good t a no_else p q g.0 j tt) (λ ts. tests t (sequence a ts)) p (λ q ts. closed_if_tokens t a no_else p q ts)
  ends_taken a j p (inside (in_else t c r) b ls st) g =
      end_taken (codes "if") (closed_if t c (else_then r a) p) b ls st g.1 g.2 (λ q. closed_if_good t c (else_then r a) p q g.0.0 g.0.1 j) (λ ts. frame (in_else t c r) (sequence a ts)) p (λ q ts. closed_if_tokens t c (else_then r a) p q ts)
  ends_taken a j p (inside (in_either (first_arm r)) b ls st) g = sound_stays sound_refuses
  ends_taken a j p (inside (in_either (later_arm t c r)) b ls st) g =
      end_taken (codes "either") (closed_either t c (last_branch r a) p) b ls st g.1 g.2 (λ q. closed_either_good t c (last_branch r a) p q g.0.0 g.0.1 j) (λ ts. arms (later_arm t c r) (sequence a ts)) p
      (λ q ts. closed_either_tokens t c (last_branch r a) p q ts)
  ends_taken a j p (inside (in_with r bs s) b ls st) g = end_taken (codes "with") (with r bs s a p) b ls st g.1 g.2 (λ q. (g.0, j)) (λ ts. frame (in_with r bs s) (sequence a ts)) p (λ q ts. refl)
  ends_taken a j p (inside (in_while r e s) b ls st) g = end_taken (codes "while") (while r e s a p) b ls st g.1 g.2 (λ q. (g.0, j)) (λ ts. frame (in_while r e s) (sequence a ts)) p (λ q ts. refl)

  closing_steps : (a : Sequence) → GoodSequence a → (p : Place) (st : Stack) → GoodStack st → AllSound p (λ ts. stack st (sequence a ts)) GoodTurn turn (closing_words m a p st)
  closing_steps a j p st g = (else_taken a j p st g, (elsif_taken a j p st g, (or_taken a j p st g, (ends_taken a j p st g, tt))))

  -- ---- after a statement
  another_steps : (n : ℕ) (b : Before) (ls : Labels) (a : Statement) (o : Option Place) (st : Stack) → GoodState (ended b ls a o st) → (p : Place) (k : TokenView)
      → StepsAt p k (passed (ended b ls a o st)) (another_by m n b ls a o st p k)
  another_steps n b ls a (Some s) st g p k = statement_steps n (after b ls a s) no_labels st (g.0, g.1) g.2 p k
  another_steps n b ls a None st g p (tk.mark tk.semicolon) = sound_past refl (sound_gives (on (ended b ls a (Some p) st)) g (λ ts. refl))
  another_steps n b ls a None st g p k = sound_stays sound_refuses

  ended_steps : (n : ℕ) (b : Before) (ls : Labels) (a : Statement) (o : Option Place) (st : Stack) → GoodState (ended b ls a o st) → (p : Place) (k : TokenView)
      → StepsAt p k (passed (ended b ls a o st)) (ended_by m n b ls a o st p k)
  ended_steps n b ls a o st g p (tk.reserved w) =
      (let all = with_before b (last_statement ls a o) in
      sound_same (λ ts. ap (λ (us : List Token). stack st us) (with_before_tokens b (last_statement ls a o) ts))
      (sound_pick w (closing_words m all p st) (another_by m n b ls a o st p (tk.reserved w)) (closing_steps all (with_before_good b (last_statement ls a o) g.0 g.1) p st g.2)
      (sound_same (λ ts. ap (λ (us : List Token). stack st us) (sym (with_before_tokens b (last_statement ls a o) ts))) (another_steps n b ls a o st g p (tk.reserved w)))))
  ended_steps n b ls a o st g p k = another_steps n b ls a o st g p k

  pub step_sound : (n : ℕ) (s : State) → GoodState s → Sound (passed s) GoodTurn turn (step m n s)
  step_sound n (begin b ls st) g = sound_next (statement_steps n b ls st g.0 g.1)
  step_sound n (ended b ls a o st) g = sound_next (ended_steps n b ls a o st g)

  pub run_sound : (n : ℕ) (s : State) → GoodState s → Sound (passed s) GoodSequence sequence (run m n s)
  run_sound zero s g = sound_refuses
  run_sound (suc n) s g = sound_after (λ ts. ts) (step_sound n s g) (turned_sound n (run_sound n))
    where
      turned_sound : (n : ℕ) → ((s : State) → GoodState s → Sound (passed s) GoodSequence sequence (run m n s)) → (t : Turn) → GoodTurn t → Sound (turn t) GoodSequence sequence (turned (run m n) t)
      turned_sound n r (on s) g = r s g
      turned_sound n r (done ss) g = sound_gives ss g (λ ts. refl)

  pub sequence_sound : (n : ℕ) → Sound here GoodSequence sequence (read_sequence m n)
  sequence_sound n = run_sound n (begin none no_labels bottom) (tt, tt)
