-- Proves that each node's keys go behind those that are there.
use Rattle.right_sides.proofs.KeyLaws.{next_node, left_less}
use Rattle.right_sides.proofs.keys.path.Goals as goal

pub add_key-requires-clause-there : goal.add_key-requires-clause-there
add_key-requires-clause-there c = next_node c.args.pool.now _ _ c.pop.new.self.items c.loop-node.nodes.items c.in-Some.node _ _ c.loop-node.invariant c.in-Some.ensures.items

pub loop-node-preserved : goal.loop-node-preserved
loop-node-preserved c =
    left_less c.args.pool.now _ _ c.pop.new.self.items c.loop-node.nodes.items c.in-Some.node _ _ _ c.add_key.new.subscripts.items c.loop-node.invariant c.in-Some.ensures.items c.in_ok-add_key.ensures.path
    c.in_ok-add_key.ensures.subscripts c.in_ok-add_key.ensures.within
