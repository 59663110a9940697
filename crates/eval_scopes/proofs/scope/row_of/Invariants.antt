-- What the loop of `row_of` keeps.
use Rattle.std.proofs.Common.{◌≡◌, ◌++◌, drop}
use Rattle.eval_scopes.specs.Choices.{members_of_choice}
use Rattle.eval_scopes.proofs.scope.row_of.Given as goal

abbrev pub invariant-loop-i : goal.invariant-loop-i
invariant-loop-i l = l.items.items ++ members_of_choice (drop l.i l.names) (drop l.i l.left) ≡ members_of_choice l.names l.left
