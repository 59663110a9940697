-- What the loop of `latest` keeps.
use Rattle.std.proofs.Common.{◌≡◌, ◌≤◌, length}
use Rattle.eval_scopes.specs.Contexts.{last_of}
use Rattle.eval_scopes.proofs.context.latest.Given as goal

abbrev pub invariant-loop-n : goal.invariant-loop-n
invariant-loop-n l = (l.n ≤ length l.defs) × (last_of l.plain l.defs l.name l.n ≡ last_of l.plain l.defs l.name l.before)

abbrev pub decreases-loop-n : goal.decreases-loop-n
decreases-loop-n l = l.n
