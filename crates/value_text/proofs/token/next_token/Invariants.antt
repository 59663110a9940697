-- Why the loop of `next_token` ends, and what it keeps: the tokens that are in sight.
use Rattle.std.proofs.Common.{◌≡◌, ◌≤◌, ◌-◌, length}
use Rattle.value_text.specs.InSight.{ahead, Skipped}
use Rattle.value_text.proofs.token.next_token.Given as goal

abbrev pub decreases-loop-from : goal.decreases-loop-from
decreases-loop-from l = length l.text - l.from

abbrev pub invariant-loop-from : goal.invariant-loop-from
invariant-loop-from l = (ahead l.text l.from ≡ ahead l.text l.at) × (l.at ≤ l.from) × (l.from ≤ length l.text) × Skipped l.text l.at l.from
