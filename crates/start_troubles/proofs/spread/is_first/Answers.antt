-- Proves that the first value is what is compared with, or its stop is the whole's.
use Rattle.std.proofs.Common.{ap, ◌∙◌}
use Rattle.std.specs.Ordering.{is_eq}
use Rattle.pcal_tree.specs.InMemory.{start_at}
use Rattle.step_spots.specs.InMemory.{routine_at}
use Rattle.step_moves.specs.Programs.{program_at}
use Rattle.step_moves.specs.StatesOf.{state_of}
use Rattle.start_troubles.proofs.GivenLaws.{given_compared, given_stops}
use Rattle.start_troubles.proofs.spread.is_first.Goals as goal

pub returns-in-Ok : goal.returns-in-Ok
returns-in-Ok c vs h =
    let p = c.args.origin.now.program in
    given_compared (program_at p) (routine_at p.pool.now c.args.routine.now) vs c.args.place (state_of c.args.state.now) (start_at p.pool.now c.args.start.now) c.requires.given _ _ c.args.f.now c.in-Ok.first c.is_eq.result
    (c.in-Ok.ensures vs h) (c.is_eq.ensures ∙ ap is_eq c.compare.ensures)

pub returns-in-Err : goal.returns-in-Err
returns-in-Err c vs h =
    let p = c.args.origin.now.program in
    given_stops (program_at p) (routine_at p.pool.now c.args.routine.now) vs c.args.place (state_of c.args.state.now) (start_at p.pool.now c.args.start.now) c.requires.given _ c.args.f.now c.in-Err.pause c.stop_of.result c.stop_of.ensures
    (c.in-Err.ensures vs h)
