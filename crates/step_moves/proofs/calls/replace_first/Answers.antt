-- Proves that the record that is returned by is the first.
use Rattle.step_spots.specs.InMemory.{routine_at}
use Rattle.step_moves.specs.Programs.{program_at}
use Rattle.step_moves.specs.StatesOf.{state_of}
use Rattle.step_moves.specs.Prepared.{as_prepared}
use Rattle.step_moves.proofs.ReplaceForms.{gives_as, both_first}
use Rattle.step_moves.proofs.calls.replace_first.Goals as goal

pub returns-clause-replaced : goal.returns-clause-replaced
returns-clause-replaced c v u h =
    let r = c.args.runner.now in
    let w = c.args.visit.now in
    let P = program_at r.program in
    gives_as _ c.replace_front.result _ _
    (both_first (as_prepared P) P v w.place c.args.end u (routine_at r.program.pool.now w.callee) w.places.now w.values.now (state_of c.args.state.now) c.args.frames.now c.index-frames-0.result c.is_empty.result c.is_empty.ensures c.if-is_empty.false c.index-frames-0.is)
    (c.replace_front.ensures.replaced v u h)
