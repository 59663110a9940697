-- The processes that run a routine, and values for their identifiers.
use Rattle.std.specs.Prelude.{◌≡◌, ◌==◌, ℕ, List, [], ◌∷◌, map, cond, Option, Some, None}
use Rattle.tla_token.specs.declared.place.Place.{Place}
use Rattle.tla_value.specs.Value.{Value, Values}
use Rattle.pcal_tree.specs.Program.{Actor}
use Rattle.step_walks.specs.Flows.{Flow, falls, onward, chosen}

-- those whose own routine has this number
abbrev pub numbered_so : ℕ → List Actor → List Actor
numbered_so n [] = []
numbered_so n (v ∷ vs) = cond (v.own.number == n) (v ∷ numbered_so n vs) (numbered_so n vs)

-- all, or those of one routine
abbrev pub those : Option ℕ → List Actor → List Actor
those None vs = vs
those (Some n) vs = numbered_so n vs

abbrev pub first : List Actor → Option Actor
first [] = None
first (v ∷ vs) = Some v

abbrev pub selves : List Actor → List (Option Value)
selves vs = map (λ (v : Actor). v.self) vs

-- these are the identifiers of all of them
abbrev pub HaveThese : List Actor → List Value → Type 0
HaveThese vs ws = map Some ws ≡ selves vs

-- a member for each of so many identifiers in turn
abbrev pub each_chosen : Place → Values → List Value → List ℕ → Flow (List Value)
each_chosen at ws [] ns = falls [] ns
each_chosen at ws (v ∷ vs) ns = chosen at ws ns (λ w ms. onward (each_chosen at ws vs ms) (λ us ls. falls (w ∷ us) ls))
