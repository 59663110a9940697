-- What a flow whose walk goes through to an end has gone through: its values, and members that are held.
use Rattle.std.proofs.Common.{◌≡◌, ℕ, zero, suc, List, [], ◌∷◌, true, Ok, Err, refl, ap}
use Rattle.std.proofs.lemmas.Bool.{or_left, or_right}
use Rattle.tla_token.specs.declared.place.Place.{Place}
use Rattle.tla_value.specs.Value.{Value, Values, no_values, and, set, Outcome, ◌>>=◌}
use Rattle.tla_value.specs.Order.{same, holds, count}
use Rattle.tla_value.specs.OrderLaws.{same_self}
use Rattle.tla_value.specs.Stops.{members_at}
use Rattle.pcal_tree.specs.Choices.{Walk, went}
use Rattle.pcal_tree.specs.Scope.{State}
use Rattle.step_walks.specs.Flows.{Flow, finish, flowing, unchosen, chosen_of, chosen}

abbrev pub After : Type 0 → Type 0
After X = X → List ℕ → Walk

pub flowing_went : {X Y : Type 0} (o : Outcome X) (go : X → Flow Y) (k : After Y) (t : State) (ms : List ℕ) → finish (flowing o go) k ≡ went t ms → (x : X) × (o ≡ Ok x) × (finish (go x) k ≡ went t ms)
flowing_went (Ok x) go k t ms q = (x, refl, q)
flowing_went (Err j) go k t ms q = cc

-- nothing is chosen
unchosen_ends : (n : ℕ) (at : Place) (t : State) (ms : List ℕ) → unchosen n at ≡ went t ms → ⊥
unchosen_ends zero at t ms q = cc
unchosen_ends (suc n) at t ms q = cc

chosen_of_went : {X : Type 0} (m : ℕ) (at : Place) (vs : Values) (n : ℕ) (ns : List ℕ) (go : Value → List ℕ → Flow X) (k : After X) (t : State) (ms : List ℕ) → finish (chosen_of (unchosen m at) vs n ns go) k ≡ went t ms
    → (v : Value) × (ks : List ℕ) × (holds v vs ≡ true) × (finish (go v ks) k ≡ went t ms)
chosen_of_went m at no_values zero ns go k t ms q = absurd (unchosen_ends m at t ms q)
chosen_of_went m at no_values (suc zero) ns go k t ms q = absurd (unchosen_ends m at t ms q)
chosen_of_went m at no_values (suc (suc n)) ns go k t ms q = absurd (unchosen_ends m at t ms q)
chosen_of_went m at (and v vs) zero ns go k t ms q = absurd (unchosen_ends m at t ms q)
chosen_of_went m at (and v vs) (suc zero) ns go k t ms q = (v, ns, or_left (same v v) (holds v vs) (same_self v), q)
chosen_of_went m at (and v vs) (suc (suc n)) ns go k t ms q = (let (u, ks, i, r) = chosen_of_went m at vs (suc n) ns go k t ms q in (u, ks, or_right (same u v) (holds u vs) i, r))

-- a member is chosen
pub chosen_went : {X : Type 0} (at : Place) (vs : Values) (ns : List ℕ) (go : Value → List ℕ → Flow X) (k : After X) (t : State) (ms : List ℕ) → finish (chosen at vs ns go) k ≡ went t ms
    → (v : Value) × (ks : List ℕ) × (holds v vs ≡ true) × (finish (go v ks) k ≡ went t ms)
chosen_went at vs [] go k t ms q = absurd (unchosen_ends (count vs) at t ms q)
chosen_went at vs (n ∷ ns) go k t ms q = chosen_of_went (count vs) at vs n ns go k t ms q

-- what has members is their set
pub set_of_members : (at : Place) (o : Outcome Value) (ws : Values) → (o >>= (members_at at)) ≡ Ok ws → o ≡ Ok (set ws)
set_of_members at (Ok v) ws q = by v q
  where
    by : (v : Value) → members_at at v ≡ Ok ws → ◌≡◌ {A = Outcome Value} (Ok v) (Ok (set ws))
    by (set vs) e = ap (λ (o : Outcome Values). o >>= (λ us. Ok (set us))) e
    by v e = cc
set_of_members at (Err k) ws q = cc

pub end_is : {s t : State} {ns ms : List ℕ} → went s ns ≡ went t ms → s ≡ t
end_is q = cc
