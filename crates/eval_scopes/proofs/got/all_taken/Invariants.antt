-- What the loop of `all_taken` keeps.
use Rattle.std.proofs.Common.{◌≡◌, ◌++◌, length, reverse}
use Rattle.eval_scopes.proofs.got.all_taken.Given as goal

abbrev pub invariant-loop-v : goal.invariant-loop-v
invariant-loop-v l = l.values.items ++ reverse l.all.items ≡ l.fn.values.items

abbrev pub decreases-loop-v : goal.decreases-loop-v
decreases-loop-v l = length l.values.items
