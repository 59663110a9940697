-- What the loop keeps: the table has the last of the actions so far.
use Rattle.std.proofs.Common.{◌≡◌}
use Rattle.tla_tree.specs.Tree.{Word}
use Rattle.algorithm_limits.specs.Numbers.{number_of}
use Rattle.action_truth.specs.AskedOf.{last_titled}
use Rattle.action_truth.proofs.asked.titles.Given as goal

abbrev pub invariant-loop-i : goal.invariant-loop-i
invariant-loop-i l = (x : Word) → number_of l.table x ≡ last_titled l.actions x l.i
