-- What a list of choices leads to is an outcome, each outcome has its list, and the first trouble is found where there is one.
use Rattle.std.proofs.Common.{◌≡◌, ℕ, zero, suc, List, [], ◌∷◌, Option, Some, None, refl, sym, ◌∙◌, ap, ◌⊎◌, inl, inr, Err}
use Rattle.tla_token.specs.declared.place.Place.{Place}
use Rattle.pcal_tree.specs.Scope.{State}
use Rattle.pcal_tree.specs.Run.{Course, ends, stops, chooses, Courses, no_courses, course, Has, HasSome}
use Rattle.pcal_tree.specs.Choices.{Walk, missing, walk, walk_into, first_trouble, first_trouble_of}
use Rattle.tla_value.specs.Value.{Trouble, Outcome}
use Rattle.std.specs.Option.{option_or}
use Rattle.pcal_tree.specs.laws.Choosing.{told, landing}

none_told : (cs : Courses) (at : Place) (r : Outcome State) → told (missing cs at) ≡ Some r → ⊥
none_told no_courses at r e = cc
none_told (course c cs) at r e = cc

pub some_inside : {X : Type 0} {r s : X} → Some r ≡ Some s → s ≡ r
some_inside e = cc

mutual
  pub walk_has : (c : Course) (ns : List ℕ) (r : Outcome State) → told (walk c ns) ≡ Some r → Has c r
  walk_has (ends t) ns r e = some_inside e
  walk_has (stops k) ns r e = some_inside e
  walk_has (chooses at cs) [] r e = absurd (none_told cs at r e)
  walk_has (chooses at cs) (n ∷ ns) r e = walk_into_has (missing cs at) (none_told cs at) cs n ns r e

  walk_into_has : (w : Walk) → ((r : Outcome State) → told w ≡ Some r → ⊥) → (cs : Courses) (n : ℕ) (ns : List ℕ) (r : Outcome State) → told (walk_into w cs n ns) ≡ Some r → HasSome cs r
  walk_into_has w h no_courses n ns r e = absurd (h r e)
  walk_into_has w h (course c cs) zero ns r e = absurd (h r e)
  walk_into_has w h (course c cs) (suc zero) ns r e = inl (walk_has c ns r e)
  walk_into_has w h (course c cs) (suc (suc n)) ns r e = inr (walk_into_has w h cs (suc n) ns r e)

-- what the first trouble tells is an outcome
mutual
  pub first_has : (c : Course) (k : Trouble) → first_trouble c ≡ Some k → Has c (Err k)
  first_has (ends t) k e = cc
  first_has (stops j) k e = ap Err (some_inside e)
  first_has (chooses at cs) k e = first_of_has cs k e

  first_of_has : (cs : Courses) (k : Trouble) → first_trouble_of cs ≡ Some k → HasSome cs (Err k)
  first_of_has no_courses k e = cc
  first_of_has (course c cs) k e = by (first_trouble c) refl e (first_has c k) (first_of_has cs k)
    where
      by : (o : Option Trouble) → first_trouble c ≡ o → option_or o (first_trouble_of cs) ≡ Some k → (first_trouble c ≡ Some k → Has c (Err k)) → (first_trouble_of cs ≡ Some k → HasSome cs (Err k)) → Has c (Err k) ⊎ HasSome cs (Err k)
      by (Some j) p e f g = inl (f (p ∙ e))
      by None p e f g = inr (g e)

-- where there is none, no outcome is trouble
mutual
  pub none_has : (c : Course) (k : Trouble) → first_trouble c ≡ None → Has c (Err k) → ⊥
  none_has (ends t) k e h = cc
  none_has (stops j) k e h = cc
  none_has (chooses at cs) k e h = none_of_has cs k e h

  none_of_has : (cs : Courses) (k : Trouble) → first_trouble_of cs ≡ None → HasSome cs (Err k) → ⊥
  none_of_has no_courses k e h = h
  none_of_has (course c cs) k e h = by (first_trouble c) refl e h (none_has c k) (none_of_has cs k)
    where
      by : (o : Option Trouble) → first_trouble c ≡ o → option_or o (first_trouble_of cs) ≡ None → Has c (Err k) ⊎ HasSome cs (Err k) → (first_trouble c ≡ None → Has c (Err k) → ⊥) → (first_trouble_of cs ≡ None → HasSome cs (Err k) → ⊥) → ⊥
      by (Some j) p e h f g = cc
      by None p e (inl h) f g = f p h
      by None p e (inr h) f g = g e h

mutual
  pub has_walk : (c : Course) (r : Outcome State) → Has c r → (ns : List ℕ) × (walk c ns ≡ landing r)
  has_walk (ends t) r h = ([], sym (ap landing h))
  has_walk (stops k) r h = ([], sym (ap landing h))
  has_walk (chooses at cs) r h = by (has_walk_into cs r h)
    where
      by : ((n : ℕ) × (ns : List ℕ) × ((w : Walk) → walk_into w cs (suc n) ns ≡ landing r)) → (ns : List ℕ) × (walk (chooses at cs) ns ≡ landing r)
      by q = (suc q.0 ∷ q.1, q.2 (missing cs at))

  has_walk_into : (cs : Courses) (r : Outcome State) → HasSome cs r → (n : ℕ) × (ns : List ℕ) × ((w : Walk) → walk_into w cs (suc n) ns ≡ landing r)
  has_walk_into no_courses r h = absurd h
  has_walk_into (course c cs) r (inl h) = by (has_walk c r h)
    where
      by : ((ns : List ℕ) × (walk c ns ≡ landing r)) → (n : ℕ) × (ns : List ℕ) × ((w : Walk) → walk_into w (course c cs) (suc n) ns ≡ landing r)
      by q = (zero, q.0, λ w. q.1)
  has_walk_into (course c cs) r (inr h) = by (has_walk_into cs r h)
    where
      by : ((n : ℕ) × (ns : List ℕ) × ((w : Walk) → walk_into w cs (suc n) ns ≡ landing r)) → (n : ℕ) × (ns : List ℕ) × ((w : Walk) → walk_into w (course c cs) (suc n) ns ≡ landing r)
      by q = (suc q.0, q.1, q.2)
