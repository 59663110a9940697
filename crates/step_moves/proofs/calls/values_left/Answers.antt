-- Proves which values the variables of another procedure have after a return.
use Rattle.std.proofs.Common.{◌∙◌}
use Rattle.step_moves.specs.StatesOf.{state_of}
use Rattle.step_moves.proofs.ReplaceForms.{gives_as, left_other}
use Rattle.step_moves.proofs.calls.values_left.Goals as goal

pub returns-in_ok-path : goal.returns-in_ok-path
returns-in_ok-path c v u h =
    let w = c.args.visit.now in
    gives_as _ c.all_read.result _ _
    (left_other c.args.runner.now v u w.callee h w.place c.args.end c.args.front.now (state_of c.args.state.now) c.if-runner-visit.false c.args.names.now c.deref-else-runner-visit.result.now c.requires.names
    (c.deref-else-runner-visit.ensures.value ∙ c.in_ok-path.ensures)) c.all_read.ensures
