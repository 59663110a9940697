-- What the loop of `same_slots` keeps.
use Rattle.std.proofs.Common.{◌≡◌, take}
use Rattle.tla_pool.specs.FormOf.{slots_of}
use Rattle.tla_pool.proofs.form.same_slots.Given as goal

abbrev pub invariant-loop-i : goal.invariant-loop-i
invariant-loop-i l = slots_of (take l.i l.xs) ≡ slots_of (take l.i l.ys)
