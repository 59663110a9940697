-- A step from a label with the written names ("A PlusCal User's Manual", section 4, on names in the translation): macro calls are written out, each variable stands
-- for itself as in the written module, and a process's own ones are read and assigned at its identifier.
use Rattle.std.specs.Prelude.{ℕ, List}
use Rattle.tla_value.specs.Grafts.{owned}
use Rattle.tla_value.specs.Definitions.{Definition}
use Rattle.module_tree.specs.Formulas.{self}
use Rattle.pcal_tree.specs.Algorithm.{Statements, Routine}
use Rattle.pcal_tree.specs.Expand.{graft_all}
use Rattle.pcal_tree.specs.Scope.{State}
use Rattle.pcal_tree.specs.Run.{no_partner, Rules}
use Rattle.pcal_tree.specs.Program.{Program, Actor}
use Rattle.pcal_tree.specs.Calls.{rules_without_macros}
use Rattle.pcal_tree.specs.Step.{Stand}
use Rattle.pcal_tree.specs.Choices.{Walk, walk}
use Rattle.action_builder.specs.WrittenNames.{written_statements}
use Rattle.action_builder.specs.OwnVariables.{is_own_variable}
use Rattle.action_builder.specs.laws.WrittenScope.{written_scope}
use Rattle.step_walks.specs.Flows.{finish}
use Rattle.step_walks.specs.StepFlows.{flow}
use Rattle.step_walks.specs.WrittenCalls.{written_rules}

abbrev pub own_statements : Program → Routine → Statements → Statements
own_statements P u ss = graft_all (owned self (is_own_variable P)) (written_statements P u ss)

-- by some rules of a step; there may be more definitions than the step reads
abbrev pub flow_by_rules : Rules → Program → List Definition → Actor → Stand → State → List ℕ → Walk
flow_by_rules M P extra v d s ns =
    finish (flow M d.label (own_statements P d.routine d.begins.items) (written_scope P extra v) d.begins.exit no_partner s ns) (λ t ms. walk (M.goto d.begins.exit t) ms)

abbrev pub written_flow : Program → List Definition → Actor → Stand → State → List ℕ → Walk
written_flow P extra v d s ns = flow_by_rules (rules_without_macros P v d.routine) P extra v d s ns

-- where the first values of a called procedure's variables are prepared too
abbrev pub written_flow_by : Program → List Definition → Actor → Stand → State → List ℕ → Walk
written_flow_by P extra v d s ns = flow_by_rules (written_rules P extra v d.routine) P extra v d s ns
