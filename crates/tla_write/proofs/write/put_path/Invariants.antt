-- Why the loop of `put_path` ends, and what it keeps: what is shown are the steps from the next one on.
use Rattle.std.proofs.Common.{◌≤◌, length, drop}
use Rattle.tla_pool.specs.FormOf.{steps_of}
use Rattle.tla_write.specs.Writing.{PutsPath}
use Rattle.tla_write.proofs.write.put_path.Given as goal

abbrev pub decreases-loop-i : goal.decreases-loop-i
decreases-loop-i l = l.i

abbrev pub invariant-loop-i : goal.invariant-loop-i
invariant-loop-i l = (l.i ≤ length l.path) × PutsPath (drop l.i (steps_of l.path)) l.first l.fn.next l.fn.plan.items l.plan.items
