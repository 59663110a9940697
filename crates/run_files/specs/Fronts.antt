-- Which parts of a text are passed over, and which are tokens, by their classes.
use Rattle.std.specs.Prelude.{◌≡◌, ℕ, ◌≤◌, Bool, true, false, length, drop, Some}
use Rattle.tla_token.specs.declared.part.Class.{Class}
use Rattle.tla_token.specs.declared.part.Class.TheVariants as class
use Rattle.tla_token.specs.declared.part.Part as code
use Rattle.tla_token.specs.Scan.{front}
use Rattle.step_runner.specs.Fronts.{Text, next_at, choices_from}

abbrev pub is_passed : Class → Bool
is_passed class.Blank = true
is_passed class.Line = true
is_passed c = false

abbrev pub is_token : Class → Bool
is_token class.Name = true
is_token class.Number = true
is_token class.Text = true
is_token (class.Sign s) = true
is_token class.Other = true
is_token c = false

-- the part at a place, if there is one, isn't passed over
abbrev pub Stops : Text → ℕ → Type 0
Stops x at = (p : code.Part) → Some p ≡ front (drop at x) → is_passed p.class ≡ false

-- the first place that isn't passed over; no choice stands before it
abbrev pub Next : Text → ℕ → ℕ → Type 0
Next x at to = (to ≡ next_at x at) × (at ≤ to) × (to ≤ length x) × Stops x to × (choices_from x at ≡ choices_from x to)
