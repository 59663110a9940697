-- How far the work list has come, and why it ends: it has no more numbers than there are rows.
use Rattle.std.proofs.Common.{◌-◌, length}
use Rattle.fairness_lines.proofs.Reaching.{Reaching, lists}
use Rattle.fairness_lines.proofs.reach.reach.Given as goal

abbrev pub invariant-loop-at : goal.invariant-loop-at
invariant-loop-at l = Reaching (lists l.rows) l.start (record { marks = l.marks.items; work = l.work.items }) l.at

abbrev pub decreases-loop-at : goal.decreases-loop-at
decreases-loop-at l = length l.rows - l.at
