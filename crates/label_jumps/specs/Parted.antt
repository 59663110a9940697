-- What is wrong with the labels of an algorithm, in two parts: where one is missing or a variable is assigned twice, and what is elsewhere than it may be.
use Rattle.std.specs.Prelude.{List, ◌++◌, true, false}
use Rattle.std.specs.List.{flat_map}
use Rattle.tla_token.specs.declared.rule.Refusal.{Refusal}
use Rattle.tla_tree.specs.Tree.{Word, Trees}
use Rattle.pcal_tree.specs.Algorithm.{Main, alone, processes, Algorithm}
use Rattle.pcal_tree.specs.Paths.{Effect}
use Rattle.pcal_tree.specs.OffencesSteps.{missing_in_macro, missing_in_body, procedure_effects, outer_effects}
use Rattle.pcal_tree.specs.OffencesLabels.{misplaced}

abbrev pub missing_in_main : (Word → Trees → Effect) → Main → List Refusal
missing_in_main C (alone b) = missing_in_body (outer_effects C) b
missing_in_main C (processes ps) = flat_map (λ p. missing_in_body (outer_effects C) p.body) ps

-- where macro calls assign what C says
abbrev pub missing_in : (Word → Trees → Effect) → Algorithm → List Refusal
missing_in C a =
    flat_map missing_in_macro a.macros ++ (flat_map (λ p. missing_in_body (procedure_effects C p) p.body) a.procedures ++ missing_in_main C a.main)

abbrev pub misplaced_in_main : Main → List Refusal
misplaced_in_main (alone b) = misplaced false false b
misplaced_in_main (processes ps) = flat_map (λ p. misplaced false false p.body) ps

abbrev pub misplaced_in : Algorithm → List Refusal
misplaced_in a =
    flat_map (λ d. misplaced true false d.body) a.macros ++ (flat_map (λ p. misplaced false true p.body) a.procedures ++ misplaced_in_main a.main)
