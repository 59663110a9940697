-- A step from a label is what comes of its statements with the written names one by one.
use Rattle.std.proofs.Common.{◌≡◌, ℕ, List, refl, sym, ap, ◌∙◌}
use Rattle.tla_value.specs.Grafts.{owned}
use Rattle.tla_value.specs.Definitions.{Definition}
use Rattle.module_tree.specs.Formulas.{self}
use Rattle.pcal_tree.specs.Algorithm.{procedure_routines}
use Rattle.pcal_tree.specs.Scope.{State}
use Rattle.pcal_tree.specs.Run.{Course, Rules, exit_to}
use Rattle.pcal_tree.specs.Program.{Program, Actor}
use Rattle.pcal_tree.specs.Calls.{rules_without_macros}
use Rattle.pcal_tree.specs.Step.{Stand, course_of}
use Rattle.pcal_tree.specs.Choices.{walk}
use Rattle.pcal_tree.specs.laws.Expansion.{Clean}
use Rattle.action_builder.specs.WrittenNames.{written_statements}
use Rattle.action_builder.specs.OwnVariables.{is_own_variable}
use Rattle.action_builder.specs.laws.WrittenScope.{written_scope, NamesApart}
use Rattle.action_builder.specs.laws.StepsOfLabels.{NamesGiven}
use Rattle.action_builder.proofs.Prepared.{localised}
use Rattle.action_builder.proofs.StepsOfLabels.{course_named}
use Rattle.step_walks.specs.FirstValues.{as_declared, as_written}
use Rattle.step_walks.specs.WrittenFlows.{own_statements, flow_by_rules, written_flow, written_flow_by}
use Rattle.step_walks.specs.laws.FirstValues.{CallsAlike}
use Rattle.step_walks.proofs.FirstValueLaws.{rules_declared}
use Rattle.step_walks.proofs.StepLaws.{list_flows}

pub written_flows : (P : Program) (extra : List Definition) (v : Actor) (d : Stand) → NamesApart P extra v d.routine → NamesGiven P extra d
    → Clean P.check (owned self (is_own_variable P)) (written_statements P d.routine d.begins.items) → (s : State) (ns : List ℕ) → walk (course_of P v d s) ns ≡ written_flow P extra v d s ns
written_flows P extra v d apart given clean s ns =
    let M = rules_without_macros P v d.routine in
    let sc = written_scope P extra v in
    ap (λ (c : State → Course). walk (c s) ns)
    (course_named P extra v d apart given
    ∙ sym (localised M self (is_own_variable P) d.label (written_statements P d.routine d.begins.items) sc (λ x at p s. refl) clean (exit_to M d.begins.exit)))
    ∙ list_flows M (λ here at m ts sc K s. refl) d.label (own_statements P d.routine d.begins.items) sc (exit_to M d.begins.exit) s ns

-- where the first values of procedures' variables are the same by their written names
pub written_flows_by : (P : Program) (extra : List Definition) (v : Actor) (d : Stand) → NamesApart P extra v d.routine → NamesGiven P extra d
    → Clean P.check (owned self (is_own_variable P)) (written_statements P d.routine d.begins.items) → CallsAlike (as_written P extra) (as_declared P) v (procedure_routines P.algorithm)
    → (s : State) (ns : List ℕ) → walk (course_of P v d s) ns ≡ written_flow_by P extra v d s ns
written_flows_by P extra v d apart given clean calls s ns =
    written_flows P extra v d apart given clean s ns ∙ ap (λ (M : Rules). flow_by_rules M P extra v d s ns) (sym (rules_declared (as_written P extra) P v calls d.routine))
