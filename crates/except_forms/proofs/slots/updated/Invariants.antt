-- What the loop of `updated` keeps.
use Rattle.std.proofs.Common.{◌≡◌, drop}
use Rattle.std.specs.Prelude.{reverse}
use Rattle.tla_pool.specs.FormOf.{slots_of}
use Rattle.tla_value.specs.Limits.{bounded}
use Rattle.tla_value.specs.Strict.{updated}
use Rattle.except_forms.proofs.slots.updated.Given as goal

abbrev pub invariant-loop-slot : goal.invariant-loop-slot
invariant-loop-slot l =
    updated bounded (slots_of (drop l.slot-index l.slots)) (reverse l.left.items) l.value ≡ updated bounded (slots_of l.slots) (reverse l.fn.left.items) l.fn.old
