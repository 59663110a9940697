-- What the next choice takes of so many.
use Rattle.std.specs.Prelude.{◌≡◌, ◌<◌, ◌⊎◌, ℕ, zero, suc, List, [], ◌∷◌}
use Rattle.tla_token.specs.declared.place.Place.{Place}
use Rattle.step_choices.specs.declared.pause.Pause.{Pause}
use Rattle.step_choices.specs.declared.pause.Pause.TheVariants as pause

-- it is missing, or is none from 1 to the count
abbrev pub TakesNone : ℕ → List ℕ → Type 0
TakesNone count [] = Unit {0}
TakesNone count (n ∷ ns) = (n ≡ 0) ⊎ (count < n)

-- how it pauses where none is taken
abbrev pub pause_unchosen : ℕ → Place → Pause
pause_unchosen zero at = pause.Held at
pause_unchosen (suc n) at = pause.Wants (suc n) at
