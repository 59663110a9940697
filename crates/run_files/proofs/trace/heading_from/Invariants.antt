-- Why the loop of `heading_from` ends, and what it keeps: no state begins so far.
use Rattle.std.proofs.Common.{◌≤◌, ◌-◌, length}
use Rattle.run_files.specs.Headings.{Passes}
use Rattle.run_files.proofs.trace.heading_from.Given as goal

abbrev pub decreases-loop-from : goal.decreases-loop-from
decreases-loop-from l = length l.text - l.from

abbrev pub invariant-loop-from : goal.invariant-loop-from
invariant-loop-from l = (l.start ≤ l.from) × (l.from ≤ length l.text) × Passes l.text l.start l.from
