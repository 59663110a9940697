-- Proves that a return and then an entry begin with the stack, and stop where there is none.
use Rattle.value_forms.proofs.StopLaws.{err_is}
use Rattle.step_spots.specs.InMemory.{routine_at}
use Rattle.step_moves.specs.Programs.{program_at}
use Rattle.step_moves.specs.StatesOf.{state_of}
use Rattle.step_moves.specs.Prepared.{as_prepared}
use Rattle.step_moves.proofs.ReplaceForms.{gives_as, both_no_stack, both_stack}
use Rattle.step_moves.proofs.calls.replace.Goals as goal

pub returns-in_err-frames-clause-replaced : goal.returns-in_err-frames-clause-replaced
returns-in_err-frames-clause-replaced c v u h =
    let r = c.args.runner.now in
    let w = c.args.visit.now in
    let P = program_at r.program in
    err_is _ c.from_residual.result c.in_err-frames.field-0.0 _ c.from_residual.ensures
    (both_no_stack (as_prepared P) P v w.place c.args.end u (routine_at r.program.pool.now w.callee) w.places.now w.values.now (state_of c.args.state.now) c.in_err-frames.field-0.0 (c.in_err-frames.ensures.frames v u h))

pub returns-clause-replaced : goal.returns-clause-replaced
returns-clause-replaced c v u h =
    let r = c.args.runner.now in
    let w = c.args.visit.now in
    let P = program_at r.program in
    gives_as _ c.replace_first.result _ _
    (both_stack (as_prepared P) P v w.place c.args.end u (routine_at r.program.pool.now w.callee) w.places.now w.values.now (state_of c.args.state.now) c.in_ok-frames.frames.items c.deref.result.now (c.in_ok-frames.ensures.frames v u h) c.deref.ensures.value)
    (c.replace_first.ensures.replaced v u h)
