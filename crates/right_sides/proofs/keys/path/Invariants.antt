-- Why the walk back ends, and what it keeps: what is made goes before the keys of the nodes that are left.
use Rattle.std.proofs.Common.{map, vec_len}
use Rattle.tla_tree.specs.Pool.{at}
use Rattle.tla_pool.specs.FormOf.{steps_of as path_of}
use Rattle.right_sides.specs.Keys.{left_keys}
use Rattle.right_sides.proofs.KeyLaws.{Left}
use Rattle.right_sides.proofs.keys.path.Given as goal

abbrev pub invariant-loop-node : goal.invariant-loop-node
invariant-loop-node l = Left l.pool (left_keys (at l.pool l.e)) (map (at l.pool) l.fn.subscripts.items) l.nodes.items (path_of l.path.items) l.subscripts.items

abbrev pub decreases-loop-node : goal.decreases-loop-node
decreases-loop-node l = vec_len l.nodes
