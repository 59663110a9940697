-- Sets that are tested by their members, and how a value is looked for in a set that isn't.
use Rattle.std.specs.Prelude.{◌≡◌}
use Rattle.tla_token.specs.declared.place.Place.{Place}
use Rattle.tla_value.specs.Value.{Value, Sense}
use Rattle.tla_value.specs.Stops.{tested}

-- its test is that of its value
abbrev pub IsListed : Sense → Type 0
IsListed s = (p : Place) (v : Value) → s.test p v ≡ tested p v s.value

abbrev pub AreListed : (Place → Sense) → Type 0
AreListed f = (at : Place) → IsListed (f at)
