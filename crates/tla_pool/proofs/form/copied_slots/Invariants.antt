-- What the loop of `copied_slots` keeps.
use Rattle.std.proofs.Common.{◌≡◌, take}
use Rattle.tla_pool.specs.FormOf.{slots_of}
use Rattle.tla_pool.proofs.form.copied_slots.Given as goal

abbrev pub invariant-loop-slot : goal.invariant-loop-slot
invariant-loop-slot l = slots_of l.copies.items ≡ slots_of (take l.slot-index l.slots)
