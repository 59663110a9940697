-- Variables that are assigned twice in a step, wherever labels are missing.
use Rattle.std.specs.Prelude.{List, ◌++◌, Some}
use Rattle.std.specs.List.{flat_map}
use Rattle.tla_token.specs.declared.rule.Rule.TheVariants.{FirstLabel, AssignTwice}
use Rattle.tla_token.specs.declared.rule.Refusal.{Refusal}
use Rattle.tla_tree.specs.Tree.{Word, Trees}
use Rattle.pcal_tree.specs.Algorithm.{Statements, Main, alone, processes, Algorithm}
use Rattle.pcal_tree.specs.Offences.{offence_if}
use Rattle.pcal_tree.specs.Paths.{Effect, Effects}
use Rattle.pcal_tree.specs.OffencesSteps.{Before, at_first, Visit, visits, assigns_twice, procedure_effects, outer_effects}

abbrev pub twice_at : Effects → Visit → List Refusal
twice_at E v = offence_if (assigns_twice E v) AssignTwice v.place

abbrev pub twice_in : Effects → Before → Statements → List Refusal
twice_in E p b = flat_map (twice_at E) (visits E p b)

abbrev pub twice_in_body : Effects → Statements → List Refusal
twice_in_body E b = twice_in E (at_first (Some FirstLabel)) b

abbrev pub twice_in_main : (Word → Trees → Effect) → Main → List Refusal
twice_in_main C (alone b) = twice_in_body (outer_effects C) b
twice_in_main C (processes ps) = flat_map (λ p. twice_in_body (outer_effects C) p.body) ps

-- where macro calls assign what C says; macros are looked at where they are called
abbrev pub assigned_twice : (Word → Trees → Effect) → Algorithm → List Refusal
assigned_twice C a = flat_map (λ p. twice_in_body (procedure_effects C p) p.body) a.procedures ++ twice_in_main C a.main
