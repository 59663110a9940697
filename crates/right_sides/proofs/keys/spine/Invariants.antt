-- Why the walk in ends, and what it keeps: the keys of what is passed are behind those of what is left.
use Rattle.right_sides.proofs.KeyLaws.{Passed}
use Rattle.right_sides.proofs.keys.spine.Given as goal

abbrev pub invariant-loop-first : goal.invariant-loop-first
invariant-loop-first l = Passed l.pool l.e l.outer l.nodes.items

abbrev pub decreases-loop-first : goal.decreases-loop-first
decreases-loop-first l = l.outer
