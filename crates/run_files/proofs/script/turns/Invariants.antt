-- Why the loop of `turns` ends, and what it keeps: the steps so far.
use Rattle.std.proofs.Common.{◌≤◌, ◌-◌, length}
use Rattle.run_files.specs.Turns.{TurnsSoFar}
use Rattle.run_files.proofs.script.turns.Given as goal

abbrev pub decreases-loop-at : goal.decreases-loop-at
decreases-loop-at l = length l.text - l.at

abbrev pub invariant-loop-at : goal.invariant-loop-at
invariant-loop-at l = TurnsSoFar l.multi l.text l.from l.turns.items l.at × (l.at ≤ length l.text)
