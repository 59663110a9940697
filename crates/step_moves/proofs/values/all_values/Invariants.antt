-- What is kept: the values so far, before those of the rest, are all.
use Rattle.std.proofs.Common.{◌≡◌, drop}
use Rattle.tla_tree.specs.Pool.{trees_at}
use Rattle.tla_value.specs.Limits.{bounded}
use Rattle.tla_value.specs.Meaning.{evals, part_values}
use Rattle.step_moves.specs.Programs.{program_at}
use Rattle.step_moves.specs.StatesOf.{state_of}
use Rattle.step_moves.specs.ScopeIn.{scope_in}
use Rattle.value_forms.proofs.StopLaws.{behind}
use Rattle.step_moves.proofs.values.all_values.Given as goal

abbrev pub invariant-loop-e : goal.invariant-loop-e
invariant-loop-e l =
    let env = (scope_in (program_at l.program) l.bound.names.items l.bound.values.items).env (state_of l.state) in
    behind l.all.items (part_values (evals bounded (trees_at l.program.pool.now (drop l.e-index l.list))) env) ≡ part_values (evals bounded (trees_at l.program.pool.now l.list)) env
