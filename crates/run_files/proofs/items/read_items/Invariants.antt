-- Why the loop of `read_items` ends, and what it keeps: the items so far, and where the next one would be.
use Rattle.std.proofs.Common.{◌≤◌, ◌-◌, length}
use Rattle.run_files.specs.SoFar.{SoFar}
use Rattle.run_files.proofs.items.read_items.Given as goal

abbrev pub decreases-loop-at : goal.decreases-loop-at
decreases-loop-at l = length l.text - l.at

abbrev pub invariant-loop-at : goal.invariant-loop-at
invariant-loop-at l = SoFar l.bullet l.known l.text l.state l.at × (l.at ≤ length l.text)
