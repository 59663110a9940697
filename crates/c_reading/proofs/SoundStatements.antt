-- What is read is spelled: each state says which tokens were passed, and a step goes to one that says no others.
use Rattle.std.proofs.Common.{◌≡◌, ℕ, zero, suc, ◌+◌, Bool, true, false, not, List, ◌∷◌, Option, Some, None, refl, ap, ◌∙◌, codes}
use Rattle.std.specs.Prelude.{IsTrue}
use Rattle.tla_token.specs.declared.place.Place.{Place}
use Rattle.tla_tree.specs.Tree.{Name}
use Rattle.tla_tree.specs.Lexical.{TokenView, Token, token}
use Rattle.tla_tree.specs.Lexical as tk
use Rattle.tla_tree.specs.Spelling.{spell, IsGood}
use Rattle.tla_tree.specs.Reader.{Reader, refuses}
use Rattle.pcal_tree.specs.GrammarParts.{name, key, mark, maybe_semicolon, Labels, no_labels, labels, binds, GoodBinds}
use Rattle.pcal_tree.specs.GrammarC.{simple, branch, with, while, compound, Labelled, labelled, no_else, else_then, Branches, last_branch, more_branches, Sequence, last_statement, more_statements}
use Rattle.pcal_tree.specs.GrammarC.{labelled_tokens, branches, sequence, labelled_takes_else, labelled_takes_or, branches_take_else, Divided, GoodLabelled, GoodBranches, GoodSequence}
use Rattle.syntax_reading.specs.TokenReaders.{Parts, pick}
use Rattle.syntax_reading.specs.ReadSimple.{simple_words}
use Rattle.syntax_reading.proofs.Sound.{Sound, SoundAt, here, AllSound, sound_gives, sound_refuses, sound_bind, sound_after, sound_next, sound_stays, sound_past, sound_then, sound_same, sound_pick, sound_mark, sound_fits, is_other}
use Rattle.syntax_reading.proofs.SoundParts.{SoundParts, colon_sound, binds_sound}
use Rattle.syntax_reading.proofs.SoundSimple.{named_sound, words_sound}
use Rattle.syntax_reading.specs.ReadAround.{with_label, within}
use Rattle.syntax_reading.proofs.WithLabel.{with_label_tokens}
use Rattle.c_reading.specs.ReadStatements.{Before, none, after, Arms, first_arm, later_arm, Test, if_test, Opening, with_opening, while_opening, Stack, bottom, in_block, in_then, in_else, in_body, in_either, State, begin, ended, Turn, on, done, with_before, joined, tested, opened, depth}
use Rattle.c_reading.specs.ReadStatements.{before_or, opens, either_if, ends_simple, after_name, bracketed, statement_words, statement_by, Ask, ask_else, ask_or, ask_other, closed, takes_else, takes_or, closing_words, is_divided, another_if, list_by, ended_by, step, turned, run, read_sequence}

-- ---- the tokens that were passed, before others
abbrev pub before : Before → List Token → List Token
before none ts = ts
before (after b a s) ts = before b (labelled_tokens a (maybe_semicolon s ts))

abbrev pub arms : Arms → List Token → List Token
arms (first_arm ls p) ts = labels ls (key p (codes "either") ts)
arms (later_arm t a s p) ts = arms t (labelled_tokens a (maybe_semicolon s (key p (codes "or") ts)))

abbrev pub test : Test → List Token → List Token
test (if_test p q e r) ts = key p (codes "if") (mark q tk.open_bracket (spell e (mark r tk.close_bracket ts)))

abbrev pub opening : Opening → List Token → List Token
opening (with_opening p q bs r) ts = key p (codes "with") (mark q tk.open_bracket (binds bs (mark r tk.close_bracket ts)))
opening (while_opening p q e r) ts = key p (codes "while") (mark q tk.open_bracket (spell e (mark r tk.close_bracket ts)))

abbrev pub stack : Stack → List Token → List Token
stack (bottom b) ts = before b ts
stack (in_block ls p b st) ts = stack st (labels ls (mark p tk.open_brace (before b ts)))
stack (in_then ls t st) ts = stack st (labels ls (test t ts))
stack (in_else ls t a s p st) ts = stack st (labels ls (test t (labelled_tokens a (maybe_semicolon s (key p (codes "else") ts)))))
stack (in_body ls o st) ts = stack st (labels ls (opening o ts))
stack (in_either t st) ts = stack st (arms t ts)

abbrev pub passed : State → List Token → List Token
passed (begin ls st) ts = stack st (labels ls ts)
passed (ended a s st) ts = stack st (labelled_tokens a (maybe_semicolon s ts))

abbrev pub turn : Turn → List Token → List Token
turn (on s) ts = passed s ts
turn (done ss) ts = sequence ss ts

-- ---- what was read is good
abbrev pub GoodBefore : Before → Type 0
GoodBefore none = Unit {0}
GoodBefore (after b a s) = GoodBefore b × GoodLabelled a × Divided s a

abbrev pub GoodArms : Arms → Type 0
GoodArms (first_arm ls p) = Unit {0}
GoodArms (later_arm t a s p) = GoodArms t × GoodLabelled a × IsTrue (not (labelled_takes_or a))

abbrev pub GoodTest : Test → Type 0
GoodTest (if_test p q e r) = IsGood e

abbrev pub GoodOpening : Opening → Type 0
GoodOpening (with_opening p q bs r) = GoodBinds bs
GoodOpening (while_opening p q e r) = IsGood e

abbrev pub GoodStack : Stack → Type 0
GoodStack (bottom b) = GoodBefore b
GoodStack (in_block ls p b st) = GoodBefore b × GoodStack st
GoodStack (in_then ls t st) = GoodTest t × GoodStack st
GoodStack (in_else ls t a s p st) = GoodTest t × GoodLabelled a × IsTrue (not (labelled_takes_else a)) × GoodStack st
GoodStack (in_body ls o st) = GoodOpening o × GoodStack st
GoodStack (in_either t st) = GoodArms t × (before_or st ≡ false) × GoodStack st

-- a statement that has just ended is a simple one or a `{..}`, so it takes nothing
abbrev pub GoodState : State → Type 0
GoodState (begin ls st) = GoodStack st
GoodState (ended a s st) = GoodLabelled a × IsTrue (not (labelled_takes_else a)) × IsTrue (not (labelled_takes_or a)) × GoodStack st

abbrev pub GoodTurn : Turn → Type 0
GoodTurn (on s) = GoodState s
GoodTurn (done ss) = GoodSequence ss

-- ---- parts together
pub with_before_tokens : (b : Before) (ss : Sequence) (ts : List Token) → sequence (with_before b ss) ts ≡ before b (sequence ss ts)
with_before_tokens none ss ts = refl
with_before_tokens (after b a s) ss ts = with_before_tokens b (more_statements a s ss) ts

pub with_before_good : (b : Before) (ss : Sequence) → GoodBefore b → GoodSequence ss → GoodSequence (with_before b ss)
with_before_good none ss g h = h
with_before_good (after b a s) ss g h = with_before_good b (more_statements a s ss) g.0 (g.1, g.2, h)

pub joined_tokens : (t : Arms) (a : Labelled) (bs : Branches) (ts : List Token) → labelled_tokens (joined t a bs) ts ≡ arms t (labelled_tokens a (branches bs ts))
joined_tokens (first_arm ls p) a bs ts = refl
joined_tokens (later_arm t c s p) a bs ts = joined_tokens t c (more_branches s p a bs) ts

pub joined_good : (t : Arms) (a : Labelled) (bs : Branches) → GoodArms t → GoodLabelled a → IsTrue (not (labelled_takes_or a)) → GoodBranches bs → GoodLabelled (joined t a bs)
joined_good (first_arm ls p) a bs g h n k = (h, n, k)
joined_good (later_arm t c s p) a bs g h n k = joined_good t c (more_branches s p a bs) g.0 g.1 g.2 (h, n, k)

pub joined_takes_else : (t : Arms) (a : Labelled) (bs : Branches) → labelled_takes_else (joined t a bs) ≡ branches_take_else bs
joined_takes_else (first_arm ls p) a bs = refl
joined_takes_else (later_arm t c s p) a bs = joined_takes_else t c (more_branches s p a bs)

-- ---- what ends where a token comes
-- what comes would not be the statement's own
abbrev pub Leaves : Ask → Labelled → Type 0
Leaves ask_else a = IsTrue (not (labelled_takes_else a))
Leaves ask_or a = IsTrue (not (labelled_takes_or a))
Leaves ask_other a = Unit {0}

-- the statement that is read where it is taken has the same tokens, x, and is good
pub record Found (q : Ask) (x : List Token → List Token) (a : Labelled) (st : Stack) : Type 0 where
  pub good : GoodLabelled a
  pub leaves : Leaves q a
  pub stands : GoodStack st
  pub same : (ts : List Token) → stack st (labelled_tokens a ts) ≡ x ts

abbrev pub AllFound : Ask → (List Token → List Token) → Option (Labelled × Stack) → Type 0
AllFound q x None = Unit {0}
AllFound q x (Some (a, st)) = Found q x a st

moved : (q : Ask) (x y : List Token → List Token) (o : Option (Labelled × Stack)) → ((ts : List Token) → y ts ≡ x ts) → AllFound q y o → AllFound q x o
moved q x y None e f = tt
moved q x y (Some (a, st)) e f = record { good = f.good; leaves = f.leaves; stands = f.stands; same = λ ts. f.same ts ∙ e ts }

leaves_else : (q : Ask) (ls : Labels) (t : Test) (c : Labelled) (s : Option Place) (p : Place) (a : Labelled) → Leaves q a → Leaves q (tested ls t c (else_then s p a))
leaves_else ask_else ls (if_test u v e w) c s p a l = l
leaves_else ask_or ls (if_test u v e w) c s p a l = l
leaves_else ask_other ls t c s p a l = tt

leaves_opened : (q : Ask) (ls : Labels) (o : Opening) (a : Labelled) → Leaves q a → Leaves q (opened ls o a)
leaves_opened ask_else ls (with_opening u v bs w) a l = l
leaves_opened ask_else ls (while_opening u v e w) a l = l
leaves_opened ask_or ls (with_opening u v bs w) a l = l
leaves_opened ask_or ls (while_opening u v e w) a l = l
leaves_opened ask_other ls o a l = tt

arm_found : (q : Ask) (t : Arms) (c : Labelled) (s : Option Place) (p : Place) (a : Labelled) (st : Stack) → AllFound q (λ ts. stack st (labelled_tokens (joined t c (last_branch s p a)) ts)) (closed q (joined t c (last_branch s p a)) st)
    → AllFound q (λ ts. stack (in_either (later_arm t c s p) st) (labelled_tokens a ts)) (closed q (joined t c (last_branch s p a)) st)
arm_found q t c s p a st f =
    moved q (λ ts. stack (in_either (later_arm t c s p) st) (labelled_tokens a ts)) (λ ts. stack st (labelled_tokens (joined t c (last_branch s p a)) ts)) (closed q (joined t c (last_branch s p a)) st)
    (λ ts. ap (stack st) (joined_tokens t c (last_branch s p a) ts)) f

found_here : (q : Ask) (a : Labelled) (st : Stack) → GoodLabelled a → Leaves q a → GoodStack st → Found q (λ ts. stack st (labelled_tokens a ts)) a st
found_here q a st g l i = record { good = g; leaves = l; stands = i; same = λ ts. refl }

pub closes : (st : Stack) (q : Ask) (a : Labelled) → GoodLabelled a → Leaves q a → GoodStack st → AllFound q (λ ts. stack st (labelled_tokens a ts)) (closed q a st)
closes (bottom b) ask_else a g l i = tt
closes (bottom b) ask_or a g l i = tt
closes (bottom b) ask_other a g l i = found_here ask_other a (bottom b) g l i
closes (in_block ls p b st) ask_else a g l i = tt
closes (in_block ls p b st) ask_or a g l i = tt
closes (in_block ls p b st) ask_other a g l i = found_here ask_other a (in_block ls p b st) g l i
closes (in_then ls t st) ask_else a g l i = found_here ask_else a (in_then ls t st) g l i
closes (in_then ls (if_test u v e w) st) ask_or a g l i = closes st ask_or (labelled ls (branch u v e w a no_else)) (i.0, g, tt) l i.1
closes (in_then ls (if_test u v e w) st) ask_other a g l i = closes st ask_other (labelled ls (branch u v e w a no_else)) (i.0, g, tt) tt i.1
closes (in_else ls (if_test u v e w) c s p st) q a g l i =
    closes st q (labelled ls (branch u v e w c (else_then s p a))) (i.0, i.1, (i.2, g)) (leaves_else q ls (if_test u v e w) c s p a l) i.3
closes (in_body ls (with_opening u v bs w) st) q a g l i = closes st q (labelled ls (with u v bs w a)) (i.0, g) (leaves_opened q ls (with_opening u v bs w) a l) i.1
closes (in_body ls (while_opening u v e w) st) q a g l i = closes st q (labelled ls (while u v e w a)) (i.0, g) (leaves_opened q ls (while_opening u v e w) a l) i.1
closes (in_either t st) ask_or a g l i = found_here ask_or a (in_either t st) g l i
closes (in_either (first_arm ls p) st) ask_else a g l i = tt
closes (in_either (later_arm t c s p) st) ask_else a g l i =
    arm_found ask_else t c s p a st (closes st ask_else (joined t c (last_branch s p a)) (joined_good t c (last_branch s p a) i.0.0 i.0.1 i.0.2 g) (ap not (joined_takes_else t c (last_branch s p a)) ∙ l) i.2)
closes (in_either (first_arm ls p) st) ask_other a g l i = tt
closes (in_either (later_arm t c s p) st) ask_other a g l i =
    arm_found ask_other t c s p a st (closes st ask_other (joined t c (last_branch s p a)) (joined_good t c (last_branch s p a) i.0.0 i.0.1 i.0.2 g) tt i.2)

-- ---- a statement comes
abbrev StepsAt : Place → TokenView → (List Token → List Token) → Reader Turn → Type 0
StepsAt p k x r = SoundAt p k x GoodTurn turn r

-- what stands open here
abbrev pub at : Labels → Stack → List Token → List Token
at ls st ts = stack st (labels ls ts)

-- ( .. )
bracketed_sound : {A : Type 0} {P : A → Type 0} {front : A → List Token → List Token} {r : Reader A} {x : List Token → List Token} (f : Place → A → Place → Turn) → Sound here P front r → ((q : Place) (a : A) (s : Place) → P a → GoodTurn (f q a s))
    → ((q : Place) (a : A) (s : Place) (ts : List Token) → turn (f q a s) ts ≡ x (mark q tk.open_bracket (front a (mark s tk.close_bracket ts)))) → Sound x GoodTurn turn (bracketed r f)
bracketed_sound f h g e = sound_bind (sound_mark tk.open_bracket) (λ q u. sound_bind h (λ a i. sound_bind (sound_mark tk.close_bracket) (λ s v. sound_gives (f q a s) (g q a s i) (λ ts. e q a s ts))))

pub divides : (s : Option Place) (a : Labelled) → is_divided s a ≡ true → Divided s a
divides (Some p) a e = tt
divides None a e = e

module _ (m : Parts) (h : SoundParts m) where
  -- past a word or brace that opens a form
  open_step : {p : Place} {k : TokenView} {x : List Token → List Token} {r : Reader Turn} (d : ℕ) → is_other k ≡ false → Sound (λ ts. x (token p k ∷ ts)) GoodTurn turn r → StepsAt p k x (within m d r)
  open_step d o i = sound_fits (m.room (d + 1)) (sound_past o i)

  named_steps : (n : ℕ) (ls : Labels) (st : Stack) → GoodStack st → (x : Name) (p : Place) (k : TokenView) → StepsAt p k (λ ts. at ls st (name x ts)) (after_name m n ls st x p k)
  named_steps n ls st i x p (tk.mark tk.colon) = sound_stays (sound_bind colon_sound (λ c u. sound_gives (on (begin (with_label ls x c) st)) i (λ ts. ap (stack st) (with_label_tokens ls x c ts))))
  named_steps n ls st i x p k = sound_stays (sound_after (at ls st) (named_sound m h n x p k) (λ s j. sound_gives (on (ended (labelled ls (simple s)) None st)) (j, refl, refl, i) (λ ts. refl)))

  either_steps : (ls : Labels) (p : Place) (st : Stack) → GoodStack st → (b : Bool) → before_or st ≡ b → StepsAt p (tk.reserved (codes "either")) (at ls st) (either_if b m ls p st)
  either_steps ls p st i true e = sound_stays sound_refuses
  either_steps ls p st i false e = open_step (depth st) refl (sound_gives (opens (in_either (first_arm ls p) st)) (tt, e, i) (λ ts. refl))

  words_step : (n : ℕ) (ls : Labels) (st : Stack) → GoodStack st → (p : Place) → AllSound p (at ls st) GoodTurn turn (statement_words m n ls st p)
  words_step n ls st i p = (
    open_step (depth st) refl (bracketed_sound (λ q e r. opens (in_then ls (if_test p q e r) st)) h.expr (λ q e r j. (j, i)) (λ q e r ts. refl)),
    (
      either_steps ls p st i (before_or st) refl,
      (
        sound_past refl (bracketed_sound (λ q bs r. opens (in_body ls (with_opening p q bs r) st)) (binds_sound m h n (depth st)) (λ q bs r j. (j, i)) (λ q bs r ts. refl)),
        (open_step (depth st) refl (bracketed_sound (λ q e r. opens (in_body ls (while_opening p q e r) st)) h.expr (λ q e r j. (j, i)) (λ q e r ts. refl)), tt),
      ),
    ),
  )

  statement_steps : (n : ℕ) (ls : Labels) (st : Stack) → GoodStack st → (p : Place) (k : TokenView) → StepsAt p k (at ls st) (statement_by m n ls st p k)
  statement_steps n ls st i p (tk.word x) = sound_past refl (sound_next (named_steps n ls st i (record { place = p; word = x })))
  statement_steps n ls st i p (tk.reserved w) =
      sound_pick w (statement_words m n ls st p) (ends_simple ls st (pick w (simple_words m p) refuses)) (words_step n ls st i p)
      (sound_then (at ls st) (sound_pick w (simple_words m p) refuses (words_sound m h p) (sound_stays sound_refuses)) (λ s j. sound_gives (on (ended (labelled ls (simple s)) None st)) (j, refl, refl, i) (λ ts. refl)))
  statement_steps n ls st i p (tk.mark tk.open_brace) = open_step (depth st) refl (sound_gives (opens (in_block ls p none st)) (tt, i) (λ ts. refl))
  statement_steps n ls st i p k = sound_stays sound_refuses

  -- ---- after a statement
  else_taken : (s : Option Place) (p : Place) (x : List Token → List Token) (o : Option (Labelled × Stack)) → AllFound ask_else x o → StepsAt p (tk.reserved (codes "else")) (λ ts. x (maybe_semicolon s ts)) (takes_else s p o)
  else_taken s p x (Some (a, in_then ls t st)) f =
      sound_past refl (sound_gives (opens (in_else ls t a s p st)) (f.stands.0, f.good, f.leaves, f.stands.1) (λ ts. f.same (maybe_semicolon s (key p (codes "else") ts))))
  else_taken s p x o f = sound_stays sound_refuses

  or_taken : (s : Option Place) (p : Place) (x : List Token → List Token) (o : Option (Labelled × Stack)) → AllFound ask_or x o → StepsAt p (tk.reserved (codes "or")) (λ ts. x (maybe_semicolon s ts)) (takes_or s p o)
  or_taken s p x (Some (a, in_either t st)) f =
      sound_past refl (sound_gives (opens (in_either (later_arm t a s p) st)) ((f.stands.0, f.good, f.leaves), f.stands.1, f.stands.2) (λ ts. f.same (maybe_semicolon s (key p (codes "or") ts))))
  or_taken s p x o f = sound_stays sound_refuses

  another_steps : (n : ℕ) (s : Option Place) (p : Place) (k : TokenView) (x : List Token → List Token) (a : Labelled) (st : Stack) → (Divided s a → GoodStack st) → ((ts : List Token) → stack st ts ≡ x ts) → (b : Bool) → is_divided s a ≡ b
      → StepsAt p k x (another_if b (statement_by m n no_labels st p k))
  another_steps n s p k x a st g e true d = sound_same e (statement_steps n no_labels st (g (divides s a d)) p k)
  another_steps n s p k x a st g e false d = sound_stays sound_refuses

  list_steps : (n : ℕ) (s : Option Place) (p : Place) (k : TokenView) (x : List Token → List Token) (o : Option (Labelled × Stack)) → AllFound ask_other x o → StepsAt p k (λ ts. x (maybe_semicolon s ts)) (list_by m n s p k o)
  list_steps n s p (tk.mark tk.close_brace) x (Some (a, bottom b)) f =
      (let ss = last_statement a s in
      sound_stays (sound_gives (done (with_before b ss)) (with_before_good b ss f.stands f.good) (λ ts. with_before_tokens b ss ts ∙ f.same (maybe_semicolon s ts))))
  list_steps n s p (tk.mark tk.close_brace) x (Some (a, in_block ls q b st)) f =
      (let ss = last_statement a s in
      sound_past refl (sound_gives (on (ended (labelled ls (compound q (with_before b ss) p)) None st)) (with_before_good b ss f.stands.0 f.good, refl, refl, f.stands.1)
      (λ ts. ap (λ (us : List Token). stack st (labels ls (mark q tk.open_brace us))) (with_before_tokens b ss (mark p tk.close_brace ts)) ∙ f.same (maybe_semicolon s (mark p tk.close_brace ts)))))
  list_steps n s p k x (Some (a, bottom b)) f =
      another_steps n s p k (λ ts. x (maybe_semicolon s ts)) a (bottom (after b a s)) (λ d. (f.stands, f.good, d)) (λ ts. f.same (maybe_semicolon s ts)) (is_divided s a) refl
  list_steps n s p k x (Some (a, in_block ls q b st)) f =
      another_steps n s p k (λ ts. x (maybe_semicolon s ts)) a (in_block ls q (after b a s) st) (λ d. ((f.stands.0, f.good, d), f.stands.1)) (λ ts. f.same (maybe_semicolon s ts)) (is_divided s a) refl
  list_steps n s p k x o f = sound_stays sound_refuses

  ended_steps : (n : ℕ) (a : Labelled) (s : Option Place) (st : Stack) → GoodState (ended a s st) → (p : Place) (k : TokenView) → StepsAt p k (passed (ended a s st)) (ended_by m n a s st p k)
  ended_steps n a None st g p (tk.mark tk.semicolon) = sound_past refl (sound_gives (on (ended a (Some p) st)) g (λ ts. refl))
  ended_steps n a s st g p (tk.reserved w) =
      (let x : List Token → List Token = λ ts. stack st (labelled_tokens a ts) in
      sound_pick w (closing_words a s st p) (list_by m n s p (tk.reserved w) (closed ask_other a st))
      (else_taken s p x (closed ask_else a st) (closes st ask_else a g.0 g.1 g.3), (or_taken s p x (closed ask_or a st) (closes st ask_or a g.0 g.2 g.3), tt))
      (list_steps n s p (tk.reserved w) x (closed ask_other a st) (closes st ask_other a g.0 tt g.3)))
  ended_steps n a s st g p k = list_steps n s p k (λ ts. stack st (labelled_tokens a ts)) (closed ask_other a st) (closes st ask_other a g.0 tt g.3)

  pub step_sound : (n : ℕ) (s : State) → GoodState s → Sound (passed s) GoodTurn turn (step m n s)
  step_sound n (begin ls st) g = sound_next (statement_steps n ls st g)
  step_sound n (ended a s st) g = sound_next (ended_steps n a s st g)

  pub run_sound : (n : ℕ) (s : State) → GoodState s → Sound (passed s) GoodSequence sequence (run m n s)
  run_sound zero s g = sound_refuses
  run_sound (suc n) s g = sound_after (λ ts. ts) (step_sound n s g) (turned_sound n (run_sound n))
    where
      turned_sound : (n : ℕ) → ((s : State) → GoodState s → Sound (passed s) GoodSequence sequence (run m n s)) → (t : Turn) → GoodTurn t → Sound (turn t) GoodSequence sequence (turned (run m n) t)
      turned_sound n r (on s) g = r s g
      turned_sound n r (done ss) g = sound_gives ss g (λ ts. refl)

  pub sequence_sound : (n : ℕ) → Sound here GoodSequence sequence (read_sequence m n)
  sequence_sound n = run_sound n (begin no_labels (bottom none)) tt
