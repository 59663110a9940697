-- Proves that the definitions are those that were there, and then the algorithm's.
use Rattle.step_moves.proofs.DefinitionLaws.{none_added, one_more, all_added, all_same, all_within}
use Rattle.step_moves.proofs.definitions.add_definitions.Goals as goal

pub loop-one-init : goal.loop-one-init
loop-one-init c = none_added c.args.into.now c.args.list.now

pub loop-one-preserved : goal.loop-one-preserved
loop-one-preserved c =
    one_more c.args.into.now c.loop-one.into c.push.new.self c.args.list.now c.loop-one.one-index _ c.one-item.result c.one-item.is c.loop-one-test.true c.in_ok-push.ensures.ok
    c.in_ok-kept.ensures.made c.in_ok-kept.ensures.body c.loop-one.invariant

pub returns-clause-all : goal.returns-clause-all
returns-clause-all c = λ ts.
    all_same c.args.into.now c.loop-one.into c.args.list.now (all_added c.args.into.now c.loop-one.into c.args.list.now c.loop-one.one-index c.loop-one-test.false c.loop-one.invariant) ts

pub returns-clause-within : goal.returns-clause-within
returns-clause-within c = λ m h past.
    all_within c.args.into.now c.loop-one.into c.args.list.now (all_added c.args.into.now c.loop-one.into c.args.list.now c.loop-one.one-index c.loop-one-test.false c.loop-one.invariant) m h past
