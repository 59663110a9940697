-- Proves that the processes with these identifiers are added.
use Rattle.step_moves.proofs.GatherLaws.{named_more, named_all}
use Rattle.step_moves.proofs.gather.add_named.Goals as goal

pub loop-v-preserved : goal.loop-v-preserved
loop-v-preserved c = λ ts.
    named_more ts c.args.own c.args.values.now c.loop-v.v-index c.v-item.result c.v-item.is c.loop-v-test.true c.args.into.now.items c.loop-v.into.items c.push.new.self.items _
    c.in_ok-push.ensures.items c.in_ok-identifier.ensures (c.loop-v.invariant ts)

pub returns : goal.returns
returns c = λ ts. named_all ts c.args.own c.args.values.now c.loop-v.v-index c.args.into.now.items c.loop-v.into.items c.loop-v-test.false (c.loop-v.invariant ts)
