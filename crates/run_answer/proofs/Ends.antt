-- Where a list of choices goes is an end of the course.
use Rattle.std.proofs.Common.{◌≡◌, ℕ, zero, suc, List, [], ◌∷◌, inl, inr, Ok}
use Rattle.tla_token.specs.declared.place.Place.{Place}
use Rattle.tla_value.specs.Value.{Outcome}
use Rattle.pcal_tree.specs.Choices.{Walk, went, missing, walk, walk_into}
use Rattle.pcal_tree.specs.Run.{Course, ends, stops, chooses, Courses, no_courses, course, Has, HasSome}
use Rattle.pcal_tree.specs.Scope.{State}

none_went : (cs : Courses) (at : Place) (ms : List ℕ) (t : State) → missing cs at ≡ went t ms → ⊥
none_went no_courses at ms t e = cc
none_went (course c cs) at ms t e = cc

mutual
  pub ends_in : (c : Course) (ns ms : List ℕ) (t : State) → walk c ns ≡ went t ms → Has c (Ok t)
  ends_in (ends u) ns ms t e = by u t ns ms e
    where
      by : (u t : State) (ns ms : List ℕ) → went u ns ≡ went t ms → ◌≡◌ {A = Outcome State} (Ok t) (Ok u)
      by u t ns ms e = cc
  ends_in (stops k) ns ms t e = cc
  ends_in (chooses at cs) [] ms t e = absurd (none_went cs at ms t e)
  ends_in (chooses at cs) (n ∷ ns) ms t e = ends_in_some (missing cs at) ms t (none_went cs at ms t) cs n ns e

  ends_in_some : (w : Walk) (ms : List ℕ) (t : State) → (w ≡ went t ms → ⊥) → (cs : Courses) (n : ℕ) (ns : List ℕ) → walk_into w cs n ns ≡ went t ms → HasSome cs (Ok t)
  ends_in_some w ms t h no_courses n ns e = absurd (h e)
  ends_in_some w ms t h (course c cs) zero ns e = absurd (h e)
  ends_in_some w ms t h (course c cs) (suc zero) ns e = inl (ends_in c ns ms t e)
  ends_in_some w ms t h (course c cs) (suc (suc n)) ns e = inr (ends_in_some w ms t h cs (suc n) ns e)
