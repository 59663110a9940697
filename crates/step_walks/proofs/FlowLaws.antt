-- What a walk along courses does where a value is asked for, and where one of several courses is chosen.
use Rattle.std.proofs.Common.{◌≡◌, ℕ, zero, suc, List, [], ◌∷◌, Ok, Err, refl, ap}
use Rattle.tla_token.specs.declared.place.Place.{Place}
use Rattle.tla_value.specs.Value.{Value, Values, no_values, and, Outcome}
use Rattle.tla_value.specs.Order.{count}
use Rattle.pcal_tree.specs.Run.{Course, chooses, held, after, at_each}
use Rattle.pcal_tree.specs.Choices.{Walk, blocked, wanting, count_courses, missing, walk, walk_into}
use Rattle.step_walks.specs.Flows.{Flow, falls, halts, onward, finish, flowing, unchosen, chosen_of, chosen}

-- ---- what follows

pub finish_onward : {X Y : Type 0} (f : Flow X) (g : X → List ℕ → Flow Y) (k : Y → List ℕ → Walk) → finish (onward f g) k ≡ finish f (λ x ms. finish (g x ms) k)
finish_onward (falls x ns) g k = refl
finish_onward (halts w) g k = refl

pub finish_same : {X : Type 0} (f : Flow X) (k h : X → List ℕ → Walk) → ((x : X) (ms : List ℕ) → k x ms ≡ h x ms) → finish f k ≡ finish f h
finish_same (falls x ns) k h e = e x ns
finish_same (halts w) k h e = refl

-- ---- a value

pub after_flows : {X Y : Type 0} (o : Outcome X) (go : X → Course) (f : X → Flow Y) (k : Y → List ℕ → Walk) (ns : List ℕ) → ((x : X) → walk (go x) ns ≡ finish (f x) k) → walk (after o go) ns ≡ finish (flowing o f) k
after_flows (Ok x) go f k ns h = h x
after_flows (Err t) go f k ns h = refl

-- ---- nothing to choose

pub held_blocks : (at : Place) (ns : List ℕ) → walk (held at) ns ≡ blocked at
held_blocks at [] = refl
held_blocks at (n ∷ ns) = refl

-- ---- a member

each_counted : (vs : Values) (go : Value → Course) → count_courses (at_each vs go) ≡ count vs
each_counted no_values go = refl
each_counted (and v vs) go = ap suc (each_counted vs go)

missing_member : (at : Place) (vs : Values) (go : Value → Course) → missing (at_each vs go) at ≡ unchosen (count vs) at
missing_member at no_values go = refl
missing_member at (and v vs) go = ap (λ (n : ℕ). wanting (suc n) at) (each_counted vs go)

into_member : {X : Type 0} (w u : Walk) (vs : Values) (n : ℕ) (ns : List ℕ) (go : Value → Course) (f : Value → List ℕ → Flow X) (k : X → List ℕ → Walk) → w ≡ u
    → ((v : Value) (ms : List ℕ) → walk (go v) ms ≡ finish (f v ms) k) → walk_into w (at_each vs go) n ns ≡ finish (chosen_of u vs n ns f) k
into_member w u no_values zero ns go f k e h = e
into_member w u no_values (suc zero) ns go f k e h = e
into_member w u no_values (suc (suc n)) ns go f k e h = e
into_member w u (and v vs) zero ns go f k e h = e
into_member w u (and v vs) (suc zero) ns go f k e h = h v ns
into_member w u (and v vs) (suc (suc n)) ns go f k e h = into_member w u vs (suc n) ns go f k e h

pub chosen_flows : {X : Type 0} (at : Place) (vs : Values) (ns : List ℕ) (go : Value → Course) (f : Value → List ℕ → Flow X) (k : X → List ℕ → Walk)
    → ((v : Value) (ms : List ℕ) → walk (go v) ms ≡ finish (f v ms) k) → walk (chooses at (at_each vs go)) ns ≡ finish (chosen at vs ns f) k
chosen_flows at vs [] go f k h = missing_member at vs go
chosen_flows at vs (n ∷ ns) go f k h = into_member (missing (at_each vs go) at) (unchosen (count vs) at) vs n ns go f k (missing_member at vs go) h
