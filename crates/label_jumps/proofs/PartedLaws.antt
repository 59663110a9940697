-- The offences against the rules on labels are those of their two parts.
use Rattle.std.proofs.Common.{◌≡◌, List, ◌++◌, true, false, ◌||◌, refl, sym, ◌∙◌}
use Rattle.std.specs.List.{list_any, flat_map}
use Rattle.std.proofs.lemmas.List.Folds.{list_any-append}
use Rattle.tla_token.specs.declared.rule.Refusal.{Refusal}
use Rattle.tla_tree.specs.Tree.{Word, Trees}
use Rattle.pcal_tree.specs.Algorithm.{Macro, Procedure, Process, Main, alone, processes, Algorithm}
use Rattle.pcal_tree.specs.Offences.{first}
use Rattle.pcal_tree.specs.OffencesSteps.{missing_in_macro, missing_in_body, procedure_effects, outer_effects}
use Rattle.pcal_tree.specs.OffencesLabels.{misplaced, of_main, label_offences_by}
use Rattle.pcal_tree.specs.Paths.{Effect}
use Rattle.pcal_tree.proofs.FirstLaws.{same_first}
use Rattle.pcal_tree.proofs.SetLaws.{Same, any_flat, any_same, any_or, or_mixed}
use Rattle.algorithm_answer.specs.Joined.{joined}
use Rattle.algorithm_answer.proofs.Joins.{first_append}
use Rattle.label_jumps.specs.Parted.{missing_in_main, missing_in, misplaced_in_main, misplaced_in}

-- of each of a list
pub each_parted : {X : Type 0} (f g : X → List Refusal) (xs : List X) → Same (flat_map (λ x. f x ++ g x) xs) (flat_map f xs ++ flat_map g xs)
each_parted f g xs t =
    any_flat t (λ x. f x ++ g x) xs ∙ any_same (λ x. list_any t (f x ++ g x)) (λ x. list_any t (f x) || list_any t (g x)) (λ x. list_any-append t (f x) (g x)) xs
    ∙ any_or (λ x. list_any t (f x)) (λ x. list_any t (g x)) xs ∙ (λ i. sym (any_flat t f xs) i || sym (any_flat t g xs) i)
    ∙ sym (list_any-append t (flat_map f xs) (flat_map g xs))

-- two lists in two parts each
pub both_parted : (xs ys us vs ps qs : List Refusal) → Same xs (us ++ vs) → Same ys (ps ++ qs) → Same (xs ++ ys) ((us ++ ps) ++ (vs ++ qs))
both_parted xs ys us vs ps qs h k t =
    list_any-append t xs ys ∙ (λ i. (h t ∙ list_any-append t us vs) i || (k t ∙ list_any-append t ps qs) i)
    ∙ or_mixed (list_any t us) (list_any t vs) (list_any t ps) (list_any t qs)
    ∙ (λ i. sym (list_any-append t us ps) i || sym (list_any-append t vs qs) i)
    ∙ sym (list_any-append t (us ++ ps) (vs ++ qs))

main_parted : (C : Word → Trees → Effect) (m : Main) → Same (of_main C m) (missing_in_main C m ++ misplaced_in_main m)
main_parted C (alone b) t = refl
main_parted C (processes ps) t = each_parted (λ (p : Process). missing_in_body (outer_effects C) p.body) (λ (p : Process). misplaced false false p.body) ps t

pub parted : (C : Word → Trees → Effect) (a : Algorithm) → first (label_offences_by C a) ≡ joined (first (missing_in C a)) (first (misplaced_in a))
parted C a =
    same_first (label_offences_by C a) (missing_in C a ++ misplaced_in a)
    (both_parted _ _ (flat_map missing_in_macro a.macros) _ _ _
    (each_parted missing_in_macro (λ (d : Macro). misplaced true false d.body) a.macros)
    (both_parted _ _ (flat_map (λ (p : Procedure). missing_in_body (procedure_effects C p) p.body) a.procedures) _ _ _
    (each_parted (λ (p : Procedure). missing_in_body (procedure_effects C p) p.body) (λ (p : Procedure). misplaced false true p.body) a.procedures)
    (main_parted C a.main)))
    ∙ first_append (missing_in C a) (misplaced_in a)
