-- Why the walk in ends, and what it keeps: the variable is the same.
use Rattle.std.proofs.Common.{◌≡◌, ◌<◌, length}
use Rattle.tla_tree.specs.Pool.{at}
use Rattle.pcal_tree.specs.Paths.{root}
use Rattle.right_sides.proofs.keys.variable.Given as goal

abbrev pub invariant-loop-first : goal.invariant-loop-first
invariant-loop-first l = (root (at l.pool l.e) ≡ root (at l.pool l.innermost)) × (l.innermost < length l.pool)

abbrev pub decreases-loop-first : goal.decreases-loop-first
decreases-loop-first l = l.innermost
