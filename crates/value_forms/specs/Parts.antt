-- What is so of each part of a value in memory.
use Rattle.std.specs.Prelude.{◌≡◌, ◌<◌, true}
use Rattle.tla_token.specs.Limits.{deepest_value}
use Rattle.tla_value.specs.Value.{Value, Values, no_values, and}
use Rattle.tla_value.specs.Order.{IsCanonical}
use Rattle.tla_value.specs.Limits.{depth, fits_parts}

abbrev pub IsPart : Value → Type 0
IsPart v = IsCanonical v × (fits_parts v ≡ true) × (depth v < deepest_value)

abbrev pub AreParts : Values → Type 0
AreParts no_values = Unit {0}
AreParts (and v vs) = IsPart v × AreParts vs

-- the values of a row, and after them those of another
abbrev pub follow : Values → Values → Values
follow no_values us = us
follow (and v vs) us = and v (follow vs us)
