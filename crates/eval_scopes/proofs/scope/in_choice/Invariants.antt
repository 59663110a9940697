-- What the loop of `in_choice` keeps.
use Rattle.std.proofs.Common.{◌≡◌, drop}
use Rattle.std.specs.Option.{option_copied}
use Rattle.eval_scopes.specs.Scopes.{choice_at, rather}
use Rattle.eval_scopes.proofs.scope.in_choice.Given as goal

abbrev pub invariant-loop-i : goal.invariant-loop-i
invariant-loop-i l = rather (choice_at (drop l.i l.names) (drop l.i l.left) l.name) (option_copied l.found) ≡ choice_at l.names l.left l.name
