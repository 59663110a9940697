-- What the loop of `same_groups` keeps.
use Rattle.std.proofs.Common.{◌≡◌, take}
use Rattle.tla_pool.specs.FormOf.{groups_of}
use Rattle.tla_pool.proofs.form.same_groups.Given as goal

abbrev pub invariant-loop-i : goal.invariant-loop-i
invariant-loop-i l = groups_of (take l.i l.xs) ≡ groups_of (take l.i l.ys)
