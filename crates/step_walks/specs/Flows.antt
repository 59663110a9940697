-- What comes of a part of a step: it goes through to what follows, with the choices that are left over, or the step ends there.
use Rattle.std.specs.Prelude.{ℕ, zero, suc, List, [], ◌∷◌, Ok, Err}
use Rattle.tla_token.specs.declared.place.Place.{Place}
use Rattle.tla_value.specs.Value.{Value, Values, and, Outcome}
use Rattle.tla_value.specs.Order.{count}
use Rattle.pcal_tree.specs.Choices.{Walk, failed, blocked, wanting}

pub data Flow (X : Type 0) : Type 0 where
  falls : X → List ℕ → Flow X
  halts : Walk → Flow X

abbrev pub onward : {X Y : Type 0} → Flow X → (X → List ℕ → Flow Y) → Flow Y
onward (falls x ns) go = go x ns
onward (halts w) go = halts w

-- what comes of the whole, where this follows
abbrev pub finish : {X : Type 0} → Flow X → (X → List ℕ → Walk) → Walk
finish (falls x ns) go = go x ns
finish (halts w) go = w

abbrev pub flowing : {X Y : Type 0} → Outcome X → (X → Flow Y) → Flow Y
flowing (Ok x) go = go x
flowing (Err k) go = halts (failed k)

-- where one of so many is to be chosen, and none is
abbrev pub unchosen : ℕ → Place → Walk
unchosen zero at = blocked at
unchosen (suc n) at = wanting (suc n) at

-- the value of a number from 1
abbrev pub chosen_of : {X : Type 0} → Walk → Values → ℕ → List ℕ → (Value → List ℕ → Flow X) → Flow X
chosen_of otherwise (and v vs) (suc zero) ns go = go v ns
chosen_of otherwise (and v vs) (suc (suc n)) ns go = chosen_of otherwise vs (suc n) ns go
chosen_of otherwise _ _ ns go = halts otherwise

-- a member is chosen by the next choice
abbrev pub chosen : {X : Type 0} → Place → Values → List ℕ → (Value → List ℕ → Flow X) → Flow X
chosen at vs [] go = halts (unchosen (count vs) at)
chosen at vs (n ∷ ns) go = chosen_of (unchosen (count vs) at) vs n ns go
