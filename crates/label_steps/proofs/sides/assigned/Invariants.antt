-- What is kept: the left sides from the last one on that were passed.
use Rattle.std.proofs.Common.{◌-◌, length, drop}
use Rattle.pcal_tree.specs.InMemory.{assignments_at}
use Rattle.label_steps.specs.SidesIn.{AreSides}
use Rattle.label_steps.proofs.sides.assigned.Given as goal

abbrev pub invariant-loop-i : goal.invariant-loop-i
invariant-loop-i l = AreSides l.sides (assignments_at l.pool (drop (length l.list - l.i) l.list))
