-- What the loop of `in_params` keeps.
use Rattle.std.proofs.Common.{◌≡◌, drop}
use Rattle.std.specs.Option.{option_copied}
use Rattle.eval_scopes.specs.Scopes.{word_at, rather}
use Rattle.eval_scopes.proofs.scope.in_params.Given as goal

abbrev pub invariant-loop-i : goal.invariant-loop-i
invariant-loop-i l = rather (word_at (drop l.i l.names) (drop l.i l.values) l.name) (option_copied l.found) ≡ word_at l.names l.values l.name
