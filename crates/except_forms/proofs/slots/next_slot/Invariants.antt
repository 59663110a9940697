-- What the loop of `next_slot` keeps.
use Rattle.std.proofs.Common.{◌≡◌, drop}
use Rattle.std.specs.Prelude.{reverse}
use Rattle.tla_pool.specs.FormOf.{steps_of}
use Rattle.tla_value.specs.Strict.{next_slot}
use Rattle.except_forms.proofs.SlotLaws.{behind}
use Rattle.except_forms.proofs.slots.next_slot.Given as goal

abbrev pub invariant-loop-step : goal.invariant-loop-step
invariant-loop-step l =
    behind l.path.items (next_slot l.slot.place (steps_of (drop l.step-index l.slot.path.items)) (reverse l.left.items)) ≡ next_slot l.slot.place (steps_of l.slot.path.items) (reverse l.fn.left.items)
