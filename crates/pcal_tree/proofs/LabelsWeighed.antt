-- Labels that are added are no more than statements: what is declared, bound and labelled at most doubles.
use Rattle.std.proofs.Common.{ℕ, suc, ◌+◌, ◌*◌, ◌≤◌, List, [], ◌∷◌, reverse, length, Bool, true, false, ◌||◌, ◌&&◌, cond, codes, Some, None, arith}
use Rattle.tla_token.specs.declared.place.Place.{Place}
use Rattle.tla_token.specs.declared.rule.Rule.TheVariants.{FirstLabel}
use Rattle.tla_tree.specs.Tree.{Word, Trees}
use Rattle.pcal_tree.specs.Algorithm.{Statement, assign, await, print, assert, skip, branch, either, with, while, goto, macro, call, return, Statements, done, then, mark, Branches, no_branches, or, Macro, Procedure, Process, Main, alone, processes, Algorithm}
use Rattle.pcal_tree.specs.Grammar.{Text, spell, algorithm_of}
use Rattle.pcal_tree.specs.Labelled.{Supply, names_after, labelled_if, needs_label, before, add_inside, add, add_some, add_to_macros, add_to_procedures, add_to_processes, add_to_main, typed_labels, with_labels, is_alone, labelled}
use Rattle.pcal_tree.specs.Tests.{is_empty}
use Rattle.pcal_tree.specs.Names.{kept, wanted}
use Rattle.pcal_tree.specs.OffencesSteps.{Before, at_label, at_first, inside, next, call_effect, procedure_effects, outer_effects}
use Rattle.pcal_tree.specs.Paths.{Effect, Effects, nothing, after_one}
use Rattle.pcal_tree.specs.Run.{partner_of}
use Rattle.pcal_tree.proofs.NamesWeighed.{names_weighed}
use Rattle.pcal_tree.proofs.TokenWeights.{inner_weight, body_weight, branches_weight, macros_weight, procedures_weight, processes_weight, main_weight, weight, weight_of_text}

-- ---- statements

if_weight : (b : Bool) (s : Supply) (at : Place) (rest : Statements) → body_weight (labelled_if b s at rest) ≤ suc (body_weight rest)
if_weight true s at rest = omega arith
if_weight false s at rest = omega arith

-- what takes a result at most twice as heavy
abbrev Twice : {R : Type 0} {B : Type 0} → (R → Type 0) → (B → ℕ) → B → (B → Supply → R) → Type 0
Twice {R = R} {B = B} Q W b go = (c : B) (t : Supply) → W c ≤ 2 * W b → Q (go c t)

mutual
  inside_twice : {R : Type 0} (Q : R → Type 0) (E : Effects) (p : Before) (s : Supply) (st : Statement) (go : Statement → Supply → R) → Twice Q inner_weight st go → Q (add_inside E p s st go)
  inside_twice Q E p s (branch e a b) go k =
      add_twice Q E (inside p.path) s a _ (λ a' t u. add_twice Q E (inside p.path) t b _ (λ b' v w. k (branch e a' b') v (omega (arith, u, w))))
  inside_twice Q E p s (either bs) go k = some_twice Q E (inside p.path) s bs _ (λ bs' t u. k (either bs') t u)
  inside_twice Q E p s (while e b) go k = add_twice Q E (inside (after_one E (while e b) p.labelled p.path)) s b _ (λ b' t u. k (while e b') t (omega (arith, u)))
  inside_twice Q E p s (with bs b) go k = k (with bs b) s (omega arith)
  inside_twice Q E p s (assign ms) go k = k (assign ms) s (omega arith)
  inside_twice Q E p s (await e) go k = k (await e) s (omega arith)
  inside_twice Q E p s (print e) go k = k (print e) s (omega arith)
  inside_twice Q E p s (assert e) go k = k (assert e) s (omega arith)
  inside_twice Q E p s skip go k = k skip s (omega arith)
  inside_twice Q E p s (goto l) go k = k (goto l) s (omega arith)
  inside_twice Q E p s (macro m ts) go k = k (macro m ts) s (omega arith)
  inside_twice Q E p s (call m ts) go k = k (call m ts) s (omega arith)
  inside_twice Q E p s return go k = k return s (omega arith)

  add_twice : {R : Type 0} (Q : R → Type 0) (E : Effects) (p : Before) (s : Supply) (b : Statements) (go : Statements → Supply → R) → Twice Q body_weight b go → Q (add E p s b go)
  add_twice Q E p s done go k = k done s (omega arith)
  add_twice Q E p s (mark n m rest) go k = add_twice Q E at_label s rest _ (λ r t u. k (mark n m r) t (omega (arith, u)))
  add_twice Q E p s (then at st rest) go k =
      inside_twice Q E (before (needs_label E p at st (partner_of rest)) p) (names_after (needs_label E p at st (partner_of rest)) s) st _ (λ st' t u.
      add_twice Q E (next E (before (needs_label E p at st (partner_of rest)) p) st' (partner_of rest)) t rest _ (λ r v w.
      let f = if_weight (needs_label E p at st (partner_of rest)) s at.first (then at st' r) in
      k (labelled_if (needs_label E p at st (partner_of rest)) s at.first (then at st' r)) v (omega (arith, u, w, f))))

  some_twice : {R : Type 0} (Q : R → Type 0) (E : Effects) (p : Before) (s : Supply) (bs : Branches) (go : Branches → Supply → R) → Twice Q branches_weight bs go → Q (add_some E p s bs go)
  some_twice Q E p s no_branches go k = k no_branches s (omega arith)
  some_twice Q E p s (or b bs) go k =
      add_twice Q E p s b _ (λ b' t u. some_twice Q E p t bs _ (λ bs' v w. k (or b' bs') v (omega (arith, u, w))))

-- ---- algorithms

macros_twice : {R : Type 0} (Q : R → Type 0) (s : Supply) (ds : List Macro) (go : List Macro → Supply → R) → Twice Q macros_weight ds go → Q (add_to_macros s ds go)
macros_twice Q s [] go k = k [] s (omega arith)
macros_twice Q s (d ∷ ds) go k =
    add_twice Q (λ st. nothing) (at_first None) s d.body _ (λ b t u.
    macros_twice Q t ds _ (λ es v w. k (record { name = d.name; params = d.params; body = b } ∷ es) v (omega (arith, u, w))))

procedures_twice : {R : Type 0} (Q : R → Type 0) (C : Word → Trees → Effect) (s : Supply) (ps : List Procedure) (go : List Procedure → Supply → R) → Twice Q procedures_weight ps go → Q (add_to_procedures C s ps go)
procedures_twice Q C s [] go k = k [] s (omega arith)
procedures_twice Q C s (p ∷ ps) go k =
    add_twice Q (procedure_effects C p) (at_first (Some FirstLabel)) s p.body _ (λ b t u.
    procedures_twice Q C t ps _ (λ qs v w. k (record { name = p.name; params = p.params; variables = p.variables; body = b } ∷ qs) v (omega (arith, u, w))))

processes_twice : {R : Type 0} (Q : R → Type 0) (C : Word → Trees → Effect) (s : Supply) (ps : List Process) (go : List Process → R) → ((qs : List Process) → processes_weight qs ≤ 2 * processes_weight ps → Q (go qs)) → Q (add_to_processes C s ps go)
processes_twice Q C s [] go k = k [] (omega arith)
processes_twice Q C s (p ∷ ps) go k =
    add_twice Q (outer_effects C) (at_first (Some FirstLabel)) s p.body _ (λ b t u.
    processes_twice Q C t ps _ (λ qs w. k (record { name = p.name; fairness = p.fairness; several = p.several; identity = p.identity; variables = p.variables; body = b } ∷ qs) (omega (arith, u, w))))

main_twice : {R : Type 0} (Q : R → Type 0) (C : Word → Trees → Effect) (s : Supply) (m : Main) (go : Main → R) → ((n : Main) → main_weight n ≤ 2 * main_weight m → Q (go n)) → Q (add_to_main C s m go)
main_twice Q C s (alone b) go k = add_twice Q (outer_effects C) (at_first (Some FirstLabel)) s b _ (λ c t u. k (alone c) u)
main_twice Q C s (processes ps) go k = processes_twice Q C s ps _ (λ qs u. k (processes qs) u)

abbrev IsTwice : Algorithm → Algorithm → Type 0
IsTwice a b = weight b ≤ 2 * weight a

with_labels_twice : (a : Algorithm) → IsTwice a (with_labels call_effect (codes "Lbl_") a)
with_labels_twice a =
    macros_twice (IsTwice a) (record { root = codes "Lbl_"; typed = typed_labels a; from = 1 }) a.macros _ (λ ms s u.
    procedures_twice (IsTwice a) (call_effect (reverse ms)) s a.procedures _ (λ ps t v.
    main_twice (IsTwice a) (call_effect (reverse ms)) t a.main _ (λ m w. omega (arith, u, v, w))))

labelled_twice : (forced : Bool) (a : Algorithm) → IsTwice a (labelled forced a)
labelled_twice forced a = by (forced || (is_alone a.main && is_empty (typed_labels a)))
  where
    by : (b : Bool) → IsTwice a (cond b (with_labels call_effect (codes "Lbl_") a) a)
    by true = with_labels_twice a
    by false = omega arith

-- the names of an algorithm with labels added
pub names_of_labelled : (forced : Bool) (x : Text) → length (kept (labelled forced (algorithm_of x))) + length (wanted (labelled forced (algorithm_of x))) ≤ 2 * length (spell x [])
names_of_labelled forced x =
    let n = names_weighed (labelled forced (algorithm_of x)) in
    let l = labelled_twice forced (algorithm_of x) in
    let t = weight_of_text x [] in
    omega arith
