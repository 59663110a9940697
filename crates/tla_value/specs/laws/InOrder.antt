-- Look-ups in ascending lists: by comparison, and no further than the place where the value would be.
use Rattle.std.specs.Prelude.{Bool, true, false, Option, Some, None}
use Rattle.std.specs.declared.cmp.Ordering.{Ordering}
use Rattle.std.specs.declared.cmp.Ordering.TheVariants.{Less, Equal, Greater}
use Rattle.tla_value.specs.Value.{Value, Values, no_values, and}
use Rattle.tla_value.specs.Order.{order}

-- what is there, nothing, or what comes later
abbrev pub by_order : {A : Type 0} → Ordering → A → A → A → A
by_order Less nothing here later = nothing
by_order Equal nothing here later = here
by_order Greater nothing here later = later

abbrev pub holds_in_order : Value → Values → Bool
holds_in_order v no_values = false
holds_in_order v (and w ws) = by_order (order v w) false true (holds_in_order v ws)

-- f[v], by the ascending domain of f and its values
abbrev pub found_in_order : Values → Values → Value → Option Value
found_in_order no_values vs v = None
found_in_order (and d ds) no_values v = None
found_in_order (and d ds) (and w ws) v = by_order (order v d) None (Some w) (found_in_order ds ws v)
