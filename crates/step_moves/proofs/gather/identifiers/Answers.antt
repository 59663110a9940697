-- Proves that the identifiers are those of the processes, in their order.
use Rattle.step_moves.proofs.GatherLaws.{identifier_more, identifier_all}
use Rattle.step_moves.proofs.gather.identifiers.Goals as goal

pub loop-one-preserved : goal.loop-one-preserved
loop-one-preserved c =
    identifier_more c.args.all.now c.loop-one.one-index c.one-item.result c.one-item.is c.loop-one-test.true c.loop-one.values.items c.push.new.self.items _
    c.in_ok-push.ensures.items c.in_ok-identifier.ensures c.loop-one.invariant

pub returns : goal.returns
returns c = identifier_all c.args.all.now c.loop-one.one-index c.loop-one.values.items c.loop-one-test.false c.loop-one.invariant
