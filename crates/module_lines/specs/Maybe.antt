-- An expression that may be there: its number is below another.
use Rattle.std.specs.Prelude.{ℕ, ◌<◌, Option, Some, None}

abbrev pub MaybeIn : ℕ → Option ℕ → Type 0
MaybeIn m None = Unit {0}
MaybeIn m (Some e) = e < m
