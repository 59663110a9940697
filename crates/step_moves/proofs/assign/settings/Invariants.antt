-- What is kept: the settings so far, before those of the rest, are all.
use Rattle.step_moves.specs.Programs.{program_at}
use Rattle.pcal_tree.specs.Variables.{vars}
use Rattle.step_moves.specs.StatesOf.{state_of, AreOf}
use Rattle.step_moves.specs.ScopeIn.{scope_in}
use Rattle.step_moves.proofs.SettingLists.{Settled}
use Rattle.step_moves.proofs.assign.settings.Given as goal

abbrev pub invariant-loop-one : goal.invariant-loop-one
invariant-loop-one l = record {
  settled : Settled l.program.pool.now (scope_in (program_at l.program) l.bound.names.items l.bound.values.items) (state_of l.state) l.assignments l.one-index l.all.items;
  variables : AreOf (vars (program_at l.program)) l.all.items;
}
