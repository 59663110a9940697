-- What is kept: what comes of the rest of the binds from there is what comes of them all.
use Rattle.std.proofs.Common.{◌≡◌, ℕ, List, drop}
use Rattle.tla_value.specs.Limits.{bounded}
use Rattle.pcal_tree.specs.InMemory.{binds_at}
use Rattle.pcal_tree.specs.Scope.{State, Scope}
use Rattle.step_walks.specs.Flows.{Flow}
use Rattle.step_walks.specs.StepFlows.{flow_binds}
use Rattle.step_moves.specs.Programs.{program_at}
use Rattle.step_moves.specs.StatesOf.{state_of}
use Rattle.step_flow.specs.Binding.{StillBound}
use Rattle.step_flow.specs.Ends.{left_of, scope_of, Stands}
use Rattle.step_flow.proofs.binds.bind_all.Given as goal

abbrev pub invariant-loop-i : goal.invariant-loop-i
invariant-loop-i l = record {
  same : (body : Scope → List ℕ → Flow State)
      → flow_binds bounded l.at (binds_at l.runner.program.pool.now (drop l.i l.binds)) body (scope_of (program_at l.runner.program) l.going) (state_of l.fn.going.state) (left_of l.choices l.going)
      ≡ flow_binds bounded l.at (binds_at l.runner.program.pool.now l.binds) body (scope_of (program_at l.runner.program) l.fn.going) (state_of l.fn.going.state) (left_of l.choices l.fn.going);
  state : l.going.state ≡ l.fn.going.state;
  stands : Stands l.runner l.going;
  still : StillBound l.fn.going l.going;
}
