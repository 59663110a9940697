-- Why the loop of `next_at` ends, and what it keeps: the place that is sought, and the choices behind it.
use Rattle.std.proofs.Common.{◌≡◌, ◌≤◌, ◌-◌, length}
use Rattle.step_runner.specs.Fronts.{next_at, choices_from}
use Rattle.run_files.proofs.scan.next_at.Given as goal

abbrev pub decreases-loop-from : goal.decreases-loop-from
decreases-loop-from l = length l.text - l.from

abbrev pub invariant-loop-from : goal.invariant-loop-from
invariant-loop-from l = (next_at l.text l.from ≡ next_at l.text l.at) × (choices_from l.text l.at ≡ choices_from l.text l.from) × (l.at ≤ l.from) × (l.from ≤ length l.text)
