-- Added labels are not called Done or Error: where no label is, none is with labels added.
use Rattle.std.proofs.Common.{◌≡◌, ℕ, suc, List, [], ◌∷◌, ◌++◌, reverse, Bool, true, false, ◌&&◌, ◌||◌, cond, codes, Some, None, refl, sym, subst}
use Rattle.std.specs.List.{AllByRecursion}
use Rattle.tla_token.specs.declared.place.Place.{Place}
use Rattle.tla_token.specs.declared.rule.Rule.TheVariants.{FirstLabel}
use Rattle.tla_tree.specs.Tree.{Word, Trees}
use Rattle.pcal_tree.specs.Algorithm.{Statement, assign, await, print, assert, skip, branch, either, with, while, goto, macro, call, return, Statements, done, then, mark, Branches, no_branches, or, Macro, Process, Procedure, Main, alone, processes, Algorithm, numbered, first_procedure, first_process, procedure_routine, process_routine, procedure_routines, main_routines}
use Rattle.pcal_tree.specs.Run.{partner_of}
use Rattle.pcal_tree.specs.Paths.{Effect, Effects, nothing, after_one}
use Rattle.pcal_tree.specs.OffencesSteps.{Before, at_label, at_first, inside, next, call_effect, procedure_effects, outer_effects}
use Rattle.pcal_tree.specs.OffencesLabels.{label_words}
use Rattle.pcal_tree.specs.Labelled.{added_name, Supply, number, names_after, labelled_if, needs_label, before, add_inside, add, add_some, add_to_macros, add_to_procedures, add_to_processes, add_to_main, typed_labels, with_labels, is_alone, labelled}
use Rattle.pcal_tree.specs.Tests.{is_empty}
use Rattle.pcal_tree.proofs.BodyLabels as Body
use Rattle.pcal_tree.specs.laws.Apart.{NoEndLabels}
use Rattle.pcal_tree.proofs.BodyLabels.{same_labels}
use Rattle.pcal_tree.proofs.OneStand.{every_both}
use Rattle.pcal_tree.proofs.ClearLabels.{is_clear, AllClear}

every_left : {X : Type 0} (Q : X → Type 0) (xs ys : List X) → AllByRecursion Q (xs ++ ys) → AllByRecursion Q xs
every_left Q [] ys h = tt
every_left Q (x ∷ xs) ys h = (h.0, every_left Q xs ys h.1)

every_right : {X : Type 0} (Q : X → Type 0) (xs ys : List X) → AllByRecursion Q (xs ++ ys) → AllByRecursion Q ys
every_right Q [] ys h = h
every_right Q (x ∷ xs) ys h = every_right Q xs ys h.1

-- D holds of each label of a body
abbrev All : (Word → Type 0) → Statements → Type 0
All D b = AllByRecursion D (Body.labels b)

abbrev AllOne : (Word → Type 0) → Statement → Type 0
AllOne D st = AllByRecursion D (Body.labels_in st)

abbrev AllSome : (Word → Type 0) → Branches → Type 0
AllSome D bs = AllByRecursion D (Body.labels_of bs)

abbrev lbl : Word
lbl = codes "Lbl_"

-- D holds of each label that is added
abbrev Added : (Word → Type 0) → Type 0
Added D = (n : ℕ) → D (added_name lbl n)

labelled_if_clear : (D : Word → Type 0) → Added D → (b : Bool) (s : Supply) (at : Place) (rest : Statements) → s.root ≡ lbl → All D rest
    → All D (labelled_if b s at rest)
labelled_if_clear D new true s at rest r h = (subst (λ w. D (added_name w (number s))) (sym r) (new (number s)), h)
labelled_if_clear D new false s at rest r h = h

after_root : (b : Bool) (s : Supply) → s.root ≡ lbl → (names_after b s).root ≡ lbl
after_root true s r = r
after_root false s r = r

-- what takes the result holds for all clear ones
abbrev After : {R : Type 0} {B : Type 0} → (R → Type 0) → (B → Type 0) → (B → Supply → R) → Type 0
After {R = R} {B = B} Q C go = (b : B) (t : Supply) → t.root ≡ lbl → C b → Q (go b t)

mutual
  clear_inside : {R : Type 0} (D : Word → Type 0) → Added D
      → (Q : R → Type 0) (E : Effects) (p : Before) (s : Supply) (st : Statement) (go : Statement → Supply → R)
      → s.root ≡ lbl → AllOne D st → After Q (AllOne D) go → Q (add_inside E p s st go)
  clear_inside D new Q E p s (branch e a b) go r h k =
      clear_add D new Q E (inside p.path) s a _ r (every_left D (Body.labels a) (Body.labels b) h) (λ a' t q c.
      clear_add D new Q E (inside p.path) t b _ q (every_right D (Body.labels a) (Body.labels b) h) (λ b' u o d.
      k (branch e a' b') u o (every_both D (Body.labels a') (Body.labels b') c d)))
  clear_inside D new Q E p s (either bs) go r h k = clear_add_some D new Q E (inside p.path) s bs _ r h (λ bs' t q c. k (either bs') t q c)
  clear_inside D new Q E p s (while e b) go r h k =
      clear_add D new Q E (inside (after_one E (while e b) p.labelled p.path)) s b _ r h (λ b' t q c. k (while e b') t q c)
  clear_inside D new Q E p s (with bs b) go r h k = k (with bs b) s r h
  clear_inside D new Q E p s (assign ms) go r h k = k (assign ms) s r h
  clear_inside D new Q E p s (await e) go r h k = k (await e) s r h
  clear_inside D new Q E p s (print e) go r h k = k (print e) s r h
  clear_inside D new Q E p s (assert e) go r h k = k (assert e) s r h
  clear_inside D new Q E p s skip go r h k = k skip s r h
  clear_inside D new Q E p s (goto l) go r h k = k (goto l) s r h
  clear_inside D new Q E p s (macro m ts) go r h k = k (macro m ts) s r h
  clear_inside D new Q E p s (call m ts) go r h k = k (call m ts) s r h
  clear_inside D new Q E p s return go r h k = k return s r h

  clear_add : {R : Type 0} (D : Word → Type 0) → Added D
      → (Q : R → Type 0) (E : Effects) (p : Before) (s : Supply) (b : Statements) (go : Statements → Supply → R)
      → s.root ≡ lbl → All D b → After Q (All D) go → Q (add E p s b go)
  clear_add D new Q E p s done go r h k = k done s r h
  clear_add D new Q E p s (mark n m rest) go r h k = clear_add D new Q E at_label s rest _ r h.1 (λ b t q c. k (mark n m b) t q (h.0, c))
  clear_add D new Q E p s (then at st rest) go r h k =
      clear_inside D new Q E (before (needs_label E p at st (partner_of rest)) p) (names_after (needs_label E p at st (partner_of rest)) s) st _ (after_root (needs_label E p at st (partner_of rest)) s r)
      (every_left D (Body.labels_in st) (Body.labels rest) h) (λ st' t q c.
      clear_add D new Q E (next E (before (needs_label E p at st (partner_of rest)) p) st' (partner_of rest)) t rest _ q
      (every_right D (Body.labels_in st) (Body.labels rest) h) (λ b u o d.
      k (labelled_if (needs_label E p at st (partner_of rest)) s at.first (then at st' b)) u o
      (labelled_if_clear D new (needs_label E p at st (partner_of rest)) s at.first (then at st' b) r (every_both D (Body.labels_in st') (Body.labels b) c d))))

  clear_add_some : {R : Type 0} (D : Word → Type 0) → Added D
      → (Q : R → Type 0) (E : Effects) (p : Before) (s : Supply) (bs : Branches) (go : Branches → Supply → R)
      → s.root ≡ lbl → AllSome D bs → After Q (AllSome D) go → Q (add_some E p s bs go)
  clear_add_some D new Q E p s no_branches go r h k = k no_branches s r h
  clear_add_some D new Q E p s (or b bs) go r h k =
      clear_add D new Q E p s b _ r (every_left D (Body.labels b) (Body.labels_of bs) h) (λ b' t q c.
      clear_add_some D new Q E p t bs _ q (every_right D (Body.labels b) (Body.labels_of bs) h) (λ bs' u o d.
      k (or b' bs') u o (every_both D (Body.labels b') (Body.labels_of bs') c d)))

-- ---- algorithms

no_rule : (xs : List Word) → AllByRecursion (λ x. Unit {0}) xs
no_rule [] = tt
no_rule (x ∷ xs) = (tt, no_rule xs)

added_clear : (n : ℕ) → is_clear (added_name lbl n)
added_clear n = refl

abbrev Clear : Statements → Type 0
Clear b = All is_clear b

macros_through : {R : Type 0} (Q : R → Type 0) (s : Supply) (ds : List Macro) (go : List Macro → Supply → R) → s.root ≡ lbl
    → ((es : List Macro) (t : Supply) → t.root ≡ lbl → Q (go es t)) → Q (add_to_macros s ds go)
macros_through Q s [] go r k = k [] s r
macros_through Q s (d ∷ ds) go r k =
    clear_add (λ x. Unit {0}) (λ n. tt) Q (λ st. nothing) (at_first None) s d.body _ r (no_rule (Body.labels d.body)) (λ b t q c.
    macros_through Q t ds _ q (λ es u o. k (record { name = d.name; params = d.params; body = b } ∷ es) u o))

procedures_through : {R : Type 0} (Q : R → Type 0) (C : Word → Trees → Effect) (s : Supply) (ps : List Procedure) (go : List Procedure → Supply → R)
    → s.root ≡ lbl
    → AllByRecursion (λ p. Clear p.body) ps → ((qs : List Procedure) (t : Supply) → t.root ≡ lbl → AllByRecursion (λ p. Clear p.body) qs → Q (go qs t))
    → Q (add_to_procedures C s ps go)
procedures_through Q C s [] go r h k = k [] s r tt
procedures_through Q C s (p ∷ ps) go r h k =
    clear_add is_clear added_clear Q (procedure_effects C p) (at_first (Some FirstLabel)) s p.body _ r h.0 (λ b t q c.
    procedures_through Q C t ps _ q h.1
    (λ qs u o d. k (record { name = p.name; params = p.params; variables = p.variables; body = b } ∷ qs) u o (c, d)))

processes_through : {R : Type 0} (Q : R → Type 0) (C : Word → Trees → Effect) (s : Supply) (ps : List Process) (go : List Process → R) → s.root ≡ lbl
    → AllByRecursion (λ p. Clear p.body) ps → ((qs : List Process) → AllByRecursion (λ p. Clear p.body) qs → Q (go qs)) → Q (add_to_processes C s ps go)
processes_through Q C s [] go r h k = k [] tt
processes_through Q C s (p ∷ ps) go r h k =
    clear_add is_clear added_clear Q (outer_effects C) (at_first (Some FirstLabel)) s p.body _ r h.0 (λ b t q c.
    processes_through Q C t ps _ q h.1 (λ qs d.
    k (record { name = p.name; fairness = p.fairness; several = p.several; identity = p.identity; variables = p.variables; body = b } ∷ qs) (c, d)))

abbrev ClearMain : Main → Type 0
ClearMain (alone b) = Clear b
ClearMain (processes ps) = AllByRecursion (λ p. Clear p.body) ps

main_through : {R : Type 0} (Q : R → Type 0) (C : Word → Trees → Effect) (s : Supply) (m : Main) (go : Main → R) → s.root ≡ lbl → ClearMain m
    → ((m' : Main) → ClearMain m' → Q (go m')) → Q (add_to_main C s m go)
main_through Q C s (alone b) go r h k =
    clear_add is_clear added_clear Q (outer_effects C) (at_first (Some FirstLabel)) s b _ r h (λ c t q d. k (alone c) d)
main_through Q C s (processes ps) go r h k = processes_through Q C s ps _ r h (λ qs c. k (processes qs) c)

-- ---- routines

from_words : (b : Statements) → AllByRecursion is_clear (label_words b) → Clear b
from_words b h = subst (AllByRecursion is_clear) (same_labels b) h

to_words : (b : Statements) → Clear b → AllByRecursion is_clear (label_words b)
to_words b h = subst (AllByRecursion is_clear) (sym (same_labels b)) h

from_procedures : (n : ℕ) (ps : List Procedure) → AllByRecursion AllClear (numbered procedure_routine n ps) → AllByRecursion (λ p. Clear p.body) ps
from_procedures n [] h = tt
from_procedures n (p ∷ ps) h = (from_words p.body h.0, from_procedures (suc n) ps h.1)

to_procedures : (n : ℕ) (ps : List Procedure) → AllByRecursion (λ p. Clear p.body) ps → AllByRecursion AllClear (numbered procedure_routine n ps)
to_procedures n [] h = tt
to_procedures n (p ∷ ps) h = (to_words p.body h.0, to_procedures (suc n) ps h.1)

from_processes : (n : ℕ) (ps : List Process) → AllByRecursion AllClear (numbered process_routine n ps) → AllByRecursion (λ p. Clear p.body) ps
from_processes n [] h = tt
from_processes n (p ∷ ps) h = (from_words p.body h.0, from_processes (suc n) ps h.1)

to_processes : (n : ℕ) (ps : List Process) → AllByRecursion (λ p. Clear p.body) ps → AllByRecursion AllClear (numbered process_routine n ps)
to_processes n [] h = tt
to_processes n (p ∷ ps) h = (to_words p.body h.0, to_processes (suc n) ps h.1)

from_main : (a : Algorithm) (m : Main) → AllByRecursion AllClear (main_routines a m) → ClearMain m
from_main a (alone b) h = from_words b h.0
from_main a (processes ps) h = from_processes (first_process a) ps h

to_main : (a : Algorithm) (m : Main) → ClearMain m → AllByRecursion AllClear (main_routines a m)
to_main a (alone b) h = (to_words b h, tt)
to_main a (processes ps) h = to_processes (first_process a) ps h

to_algorithm : (a : Algorithm) → AllByRecursion (λ p. Clear p.body) a.procedures → ClearMain a.main → NoEndLabels a
to_algorithm a h k =
    every_both AllClear (procedure_routines a) (main_routines a a.main) (to_procedures (first_procedure a) a.procedures h) (to_main a a.main k)

with_labels_clear : (a : Algorithm) → NoEndLabels a → NoEndLabels (with_labels call_effect lbl a)
with_labels_clear a h =
    macros_through NoEndLabels (record { root = lbl; typed = typed_labels a; from = 1 }) a.macros _ refl (λ ms s r.
    procedures_through NoEndLabels (call_effect (reverse ms)) s a.procedures _ r
    (from_procedures (first_procedure a) a.procedures (every_left AllClear (procedure_routines a) (main_routines a a.main) h)) (λ ps t q c.
    main_through NoEndLabels (call_effect (reverse ms)) t a.main _ q
    (from_main a a.main (every_right AllClear (procedure_routines a) (main_routines a a.main) h)) (λ m d.
    to_algorithm (record { name = a.name; fair = a.fair; globals = a.globals; definitions = a.definitions; macros = ms; procedures = ps; main = m }) c d)))

pub labelled_clear : (forced : Bool) (a : Algorithm) → NoEndLabels a → NoEndLabels (labelled forced a)
labelled_clear forced a h = by (forced || (is_alone a.main && is_empty (typed_labels a)))
  where
    by : (b : Bool) → NoEndLabels (cond b (with_labels call_effect lbl a) a)
    by true = with_labels_clear a h
    by false = h
