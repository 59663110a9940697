-- What the loop keeps: none of the actions that are passed has the name.
use Rattle.std.proofs.Common.{◌≡◌, ◌≤◌}
use Rattle.action_truth.specs.AskedOf.{last_titled}
use Rattle.action_truth.proofs.asked.scanned.Given as goal

abbrev pub invariant-loop-n : goal.invariant-loop-n
invariant-loop-n l = (l.n ≤ l.before) × (last_titled l.actions l.title l.n ≡ last_titled l.actions l.title l.before)

abbrev pub decreases-loop-n : goal.decreases-loop-n
decreases-loop-n l = l.n
