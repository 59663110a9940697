-- The places of tokens, and of the end behind them.
use Rattle.std.proofs.Common.{◌≡◌, ℕ, zero, suc, ◌<◌, ◌≤◌, List, [], ◌∷◌, length, map, get_or, refl, arith}
use Rattle.std.proofs.lemmas.List.{get_or-map}
use Rattle.tla_token.specs.declared.place.Place.{Place}
use Rattle.tla_token.specs.declared.token.Token as code_token

pub place_there : (ts : List code_token.Token) (i : ℕ) (t : code_token.Token) (end : Place) → i < length ts → get_or (map (λ (t : code_token.Token). t.place) ts) i end ≡ (get_or ts i t).place
place_there ts i t end h = get_or-map (λ (t : code_token.Token). t.place) ts i t end h

pub place_behind : (ts : List code_token.Token) (i : ℕ) (end : Place) → length ts ≤ i → get_or (map (λ (t : code_token.Token). t.place) ts) i end ≡ end
place_behind [] i end h = refl
place_behind (t ∷ ts) zero end h = absurd (omega (arith, h))
place_behind (t ∷ ts) (suc i) end h = place_behind ts i end (omega (arith, h))
