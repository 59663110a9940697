-- What becomes of an output that takes a line.
use Rattle.std.specs.Prelude.{◌≡◌, ◌⊎◌, ℕ, List, Option}
use Rattle.outer_io.specs.Outer.{RoseBy, Grows, GrowsInPart}

-- a sink went on by these bytes and counted no fault, or by the first of them alone and counted one
abbrev pub Told : Option (List ℕ) → Option (List ℕ) → ℕ → ℕ → List ℕ → Type 0
Told old new before after bytes = (Grows old new bytes × (after ≡ before)) ⊎ (GrowsInPart old new bytes × RoseBy 1 before after)
