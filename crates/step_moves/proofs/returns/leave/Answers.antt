-- Proves that a return stops where there is no stack.
use Rattle.pcal_tree.specs.Calls.{restored}
use Rattle.value_forms.proofs.StopLaws.{err_is, then_stops}
use Rattle.step_moves.specs.Programs.{program_at}
use Rattle.step_moves.specs.StatesOf.{state_of}
use Rattle.step_moves.proofs.returns.leave.Goals as goal

pub returns-in_err-frames-clause-returned : goal.returns-in_err-frames-clause-returned
returns-in_err-frames-clause-returned c v u h =
    err_is _ c.from_residual.result c.in_err-frames.field-0.0 _ c.from_residual.ensures
    (then_stops c.in_err-frames.field-0.0 _ (λ frames. restored (program_at c.args.runner.now.program) v c.args.at u frames (state_of c.args.state.now)) (c.in_err-frames.ensures.frames v u h))
