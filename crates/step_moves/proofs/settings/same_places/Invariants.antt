-- What is kept: so many places.
use Rattle.std.proofs.Common.{◌≡◌, replicate}
use Rattle.step_moves.proofs.settings.same_places.Given as goal

abbrev pub invariant-loop-i : goal.invariant-loop-i
invariant-loop-i l = l.all.items ≡ replicate l._i l.at
