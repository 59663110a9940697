-- Where no rule on labels is broken, bodies begin with a label.
use Rattle.std.proofs.Common.{◌≡◌, List, [], ◌∷◌, reverse}
use Rattle.std.specs.List.{flat_map, AllByRecursion}
use Rattle.tla_tree.specs.Tree.{Word, Trees}
use Rattle.pcal_tree.specs.Algorithm.{Statements, done, then, mark, Procedure, Algorithm}
use Rattle.pcal_tree.specs.OffencesLabels.{of_macro, of_procedure, of_main, label_offences}
use Rattle.pcal_tree.specs.OffencesSteps.{call_effect, missing_in_body, procedure_effects}
use Rattle.pcal_tree.specs.Paths.{Effect, Effects}
use Rattle.pcal_tree.proofs.ClearLabels.{both_none}
use Rattle.step_moves.specs.Prepared.{IsLabelled}

begins_labelled : (E : Effects) (b : Statements) → missing_in_body E b ≡ [] → IsLabelled b
begins_labelled E done e = tt
begins_labelled E (then at st rest) e = cc
begins_labelled E (mark l k rest) e = tt

all_begin_labelled : (C : Word → Trees → Effect) (ps : List Procedure) → flat_map (of_procedure C) ps ≡ [] → AllByRecursion (λ (p : Procedure). IsLabelled p.body) ps
all_begin_labelled C [] e = tt
all_begin_labelled C (p ∷ ps) e =
    let h = both_none (of_procedure C p) _ e in
    (begins_labelled (procedure_effects C p) p.body (both_none (missing_in_body (procedure_effects C p) p.body) _ h.0).0, all_begin_labelled C ps h.1)

pub procedures_begin_labelled : (a : Algorithm) → label_offences a ≡ [] → AllByRecursion (λ (p : Procedure). IsLabelled p.body) a.procedures
procedures_begin_labelled a e =
    let C = call_effect (reverse a.macros) in
    all_begin_labelled C a.procedures (both_none (flat_map (of_procedure C) a.procedures) (of_main C a.main) (both_none (flat_map of_macro a.macros) _ e).1).0
