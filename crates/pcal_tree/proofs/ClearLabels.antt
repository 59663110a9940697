-- Where no rule on reserved names is offended, no label is called Done or Error.
use Rattle.std.proofs.Common.{◌≡◌, ℕ, suc, List, [], ◌∷◌, ◌++◌, Bool, true, false, codes, map, refl, ◌∙◌, ap}
use Rattle.std.specs.List.{flat_map, AllByRecursion}
use Rattle.tla_token.specs.declared.rule.Rule.TheVariants.{Reserved}
use Rattle.tla_token.specs.Signs.{is_among}
use Rattle.tla_tree.specs.Tree.{Word}
use Rattle.pcal_tree.specs.Algorithm.{Process, Procedure, Main, alone, processes, Algorithm, Routine, numbered, first_procedure, first_process, procedure_routine, process_routine, procedure_routines, main_routines}
use Rattle.pcal_tree.specs.Offences.{offence_if}
use Rattle.pcal_tree.specs.OffencesLabels.{Label, labels, label_words, labels_of_main, all_labels}
use Rattle.pcal_tree.specs.OffencesReserved.{reserved_name, reserved_label, reserved_outside, declared_names, reserved_declared}
use Rattle.tla_value.specs.Outside.{Outside}
use Rattle.pcal_tree.specs.laws.Apart.{NoEndLabels}
use Rattle.pcal_tree.proofs.OneStand.{every_both}

-- two lists without items
pub both_none : {X : Type 0} (xs ys : List X) → xs ++ ys ≡ [] → (xs ≡ []) × (ys ≡ [])
both_none [] ys e = (refl, e)
both_none (x ∷ xs) ys e = cc

pub nothing_left : {X : Type 0} (xs ys : List X) → xs ++ ys ≡ [] → xs ≡ []
nothing_left xs ys e = (both_none xs ys e).0

pub nothing_right : {X : Type 0} (xs ys : List X) → xs ++ ys ≡ [] → ys ≡ []
nothing_right xs ys e = (both_none xs ys e).1

abbrev pub is_clear : Word → Type 0
is_clear w = is_among (codes "Done" ∷ codes "Error" ∷ []) w ≡ false

abbrev pub AllClear : Routine → Type 0
AllClear u = AllByRecursion is_clear (label_words u.body)

one_clear : (l : Label) → reserved_label l ≡ [] → is_clear l.name.word
one_clear l e = by (is_among (codes "Done" ∷ codes "Error" ∷ []) l.name.word) e
  where
    by : (b : Bool) → offence_if b Reserved l.name.place ≡ [] → b ≡ false
    by true e = cc
    by false e = refl

all_clear : (ls : List Label) → flat_map reserved_label ls ≡ [] → AllByRecursion is_clear (map (λ l. l.name.word) ls)
all_clear [] e = tt
all_clear (l ∷ ls) e = (
  one_clear l (nothing_left (reserved_label l) (flat_map reserved_label ls) e),
  all_clear ls (nothing_right (reserved_label l) (flat_map reserved_label ls) e),
)

each_of_both : {X Y : Type 0} (f : X → List Y) (xs ys : List X) → flat_map f (xs ++ ys) ≡ [] → (flat_map f xs ≡ []) × (flat_map f ys ≡ [])
each_of_both f [] ys e = (refl, e)
each_of_both f (x ∷ xs) ys e =
    let rest = each_of_both f xs ys (nothing_right (f x) (flat_map f (xs ++ ys)) e) in
    (ap (λ l. l ++ flat_map f xs) (nothing_left (f x) (flat_map f (xs ++ ys)) e) ∙ rest.0, rest.1)

procedures_clear : (n : ℕ) (ps : List Procedure)
    → flat_map reserved_label (flat_map (λ p. labels false p.body) ps) ≡ [] → AllByRecursion AllClear (numbered procedure_routine n ps)
procedures_clear n [] e = tt
procedures_clear n (p ∷ ps) e =
    let both = each_of_both reserved_label (labels false p.body) (flat_map (λ p. labels false p.body) ps) e in
    (all_clear (labels false p.body) both.0, procedures_clear (suc n) ps both.1)

processes_clear : (n : ℕ) (ps : List Process)
    → flat_map reserved_label (flat_map (λ p. labels false p.body) ps) ≡ [] → AllByRecursion AllClear (numbered process_routine n ps)
processes_clear n [] e = tt
processes_clear n (p ∷ ps) e =
    let both = each_of_both reserved_label (labels false p.body) (flat_map (λ p. labels false p.body) ps) e in
    (all_clear (labels false p.body) both.0, processes_clear (suc n) ps both.1)

main_clear : (a : Algorithm) (m : Main) → flat_map reserved_label (labels_of_main m) ≡ [] → AllByRecursion AllClear (main_routines a m)
main_clear a (alone b) e = (all_clear (labels false b) e, tt)
main_clear a (processes ps) e = processes_clear (first_process a) ps e

pub clear_labels : (a : Algorithm) (o : Outside) → reserved_declared a o ≡ [] → NoEndLabels a
clear_labels a o e =
    let last : flat_map reserved_label (all_labels a) ≡ [] =
    nothing_right (flat_map (reserved_name o) (declared_names a)) (flat_map reserved_label (all_labels a))
    (nothing_right (reserved_outside o) (flat_map (reserved_name o) (declared_names a) ++ flat_map reserved_label (all_labels a)) e) in
    let behind =
    each_of_both reserved_label (flat_map (λ d. labels false d.body) a.macros)
    (flat_map (λ p. labels false p.body) a.procedures ++ labels_of_main a.main) last in
    let both = each_of_both reserved_label (flat_map (λ p. labels false p.body) a.procedures) (labels_of_main a.main) behind.1 in
    every_both AllClear (procedure_routines a) (main_routines a a.main) (procedures_clear (first_procedure a) a.procedures both.0)
    (main_clear a a.main both.1)
