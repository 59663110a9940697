-- Proves what is asked of `read_states`.
use Rattle.std.proofs.Common.{arith, ◌<◌}
use Rattle.run_files.proofs.TraceLaws.{state_passed, states_end, states_stop}
use Rattle.run_files.proofs.trace.read_states.Goals as goal

pub returns-in-Err-At : goal.returns-in-Err-At
returns-in-Err-At c =
    let a = rw c.in-Err-At.field-0-is at c.in-Err-At.ensures in
    states_stop c.args.vars.now c.args.text.now c.args.from c.loop-states.at c.in-Err-At.n _ c.heading_from-next.result c.loop-states.states.items c.loop-states.invariant.0 c.heading_from-next.ensures a (omega (arith, c.in-Err-At.n-is))

pub returns-then-next : goal.returns-then-next
returns-then-next c =
    let a = c.in-Ok.ensures in
    states_end c.args.vars.now c.args.text.now c.args.from c.loop-states.at c.heading_from-next.result c.loop-states.states.items c.read_state.new.states.items a.0 c.loop-states.invariant.0 c.heading_from-next.ensures c.if-next.true a.1 a.2

pub loop-states-preserved : goal.loop-states-preserved
loop-states-preserved c =
    let a = c.in-Ok.ensures in
    let k = c.heading_from-next.ensures in
    let l : c.heading_from-next.result.from < c.heading_from-next.result.to = omega (arith, k.within, c.if-next.false) in (
      state_passed c.args.vars.now c.args.text.now c.args.from c.loop-states.at c.heading_from-next.result c.loop-states.states.items c.read_state.new.states.items a.0 c.loop-states.invariant.0 k l a.1 a.2,
      k.inside,
    )
