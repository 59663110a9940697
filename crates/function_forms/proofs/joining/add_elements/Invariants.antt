-- What the loop of `add_elements` keeps.
use Rattle.std.proofs.Common.{◌≡◌, ◌++◌, take}
use Rattle.tla_value.specs.Value.{values_in}
use Rattle.tla_value.specs.Order.{numbers_from}
use Rattle.function_forms.proofs.joining.add_elements.Given as goal

abbrev pub invariant-loop-e : goal.invariant-loop-e
invariant-loop-e l = (l.elements.items ≡ l.fn.elements.items ++ take l.e-index l.more) × (values_in l.places.items ≡ numbers_from 1 l.elements.items)
