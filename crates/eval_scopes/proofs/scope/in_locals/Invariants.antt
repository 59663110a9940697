-- What the loop of `in_locals` keeps.
use Rattle.std.proofs.Common.{◌≡◌, drop}
use Rattle.std.specs.Option.{option_copied}
use Rattle.eval_scopes.specs.Scopes.{local_at, rather}
use Rattle.eval_scopes.proofs.scope.in_locals.Given as goal

abbrev pub invariant-loop-i : goal.invariant-loop-i
invariant-loop-i l = rather (local_at (drop l.i l.names) (drop l.i l.values) l.name) (option_copied l.found) ≡ local_at l.names l.values l.name
