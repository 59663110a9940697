-- Proves that the nodes with keys are passed.
use Rattle.right_sides.proofs.KeyLaws.{passed_none, passed_more, passed_all}
use Rattle.right_sides.proofs.keys.spine.Goals as goal

pub loop-first-init : goal.loop-first-init
loop-first-init c = passed_none c.args.pool.now c.args.e _ c.new-nodes.ensures.items c.requires

pub loop-first-preserved : goal.loop-first-preserved
loop-first-preserved c =
    passed_more c.args.pool.now c.args.e c.loop-first.outer c.in-Some.first c.loop-first.nodes.items c.push.new.self.items c.loop-first.invariant c.in_ok-push.ensures.items c.in-Some.ensures.smaller c.in-Some.ensures.keys

pub returns-clause-keys : goal.returns-clause-keys
returns-clause-keys c = passed_all c.args.pool.now c.args.e c.loop-first.outer c.loop-first.nodes.items c.loop-first.invariant c.in_default.ensures.no_keys
