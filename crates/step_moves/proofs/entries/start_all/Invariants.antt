-- What the loop keeps: from the state now the variables that are left get the values that all get from the old one.
use Rattle.std.proofs.Common.{◌≡◌, drop}
use Rattle.pcal_tree.specs.Algorithm.{Routine}
use Rattle.pcal_tree.specs.InMemory.{declarations_at}
use Rattle.pcal_tree.specs.Program.{Actor}
use Rattle.step_walks.specs.WrittenCalls.{variables_by}
use Rattle.step_spots.specs.InMemory.{routine_at}
use Rattle.step_moves.specs.Programs.{program_at}
use Rattle.step_moves.specs.StatesOf.{state_of}
use Rattle.step_moves.specs.ScopeIn.{IsScene}
use Rattle.step_moves.specs.Prepared.{as_prepared}
use Rattle.step_moves.specs.Runners.{IsRunner}
use Rattle.step_moves.proofs.entries.start_all.Given as goal

abbrev pub invariant-loop-one : goal.invariant-loop-one
invariant-loop-one l =
    let P = program_at l.runner.program in
    let ts = l.runner.program.pool.now in
    let p = routine_at ts l.visit.callee in
    let ds = l.visit.callee.variables.now in
    ((v : Actor) (u : Routine) → IsRunner l.runner v u
    → variables_by (as_prepared P) P v p l.visit.place (declarations_at ts (drop l.one-index ds)) (state_of l.state) ≡ variables_by (as_prepared P) P v p l.visit.place (declarations_at ts ds) (state_of l.fn.state))
    × IsScene l.runner.program l.state
