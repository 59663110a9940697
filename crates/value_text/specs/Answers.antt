-- How a text is refused in which no value is at a place.
use Rattle.std.specs.Prelude.{◌≡◌, ℕ, List}
use Rattle.tla_token.specs.declared.rule.Refusal.{Refusal}
use Rattle.tla_token.specs.declared.rule.Rule.TheVariants.{BadLine}
use Rattle.tla_token.specs.Places.{place_at}
use Rattle.tla_value.specs.Value.{Value}
use Rattle.tla_value.specs.ValueSeen.{SpellsFrom}

-- by the rule for lines, at that place, and no value is spelled there
pub record IsNoValue (bytes : List ℕ) (at : ℕ) (r : Refusal) : Type 0 where
  pub rule : r.rule ≡ BadLine
  pub place : r.place ≡ place_at bytes at
  pub none : (to : ℕ) (v : Value) → SpellsFrom bytes at to v → ⊥
