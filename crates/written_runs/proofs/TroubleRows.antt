-- Worked rows: a course with two choices, the second of which can be held, end, or meet trouble.
use Rattle.std.proofs.Common.{◌≡◌, ℕ, [], ◌∷◌, Some, None, refl}
use Rattle.tla_token.specs.declared.place.Place.{Place}
use Rattle.tla_value.specs.Value.{over}
use Rattle.pcal_tree.specs.Scope.{State}
use Rattle.pcal_tree.specs.Run.{Course, ends, stops, chooses, no_courses, course, held}
use Rattle.pcal_tree.specs.Choices.{walk}
use Rattle.written_runs.specs.Searches.{rest_after, weight, found}

abbrev at : ℕ → Place
at n = record { line = n; col = 1 }

module _ (s : State) where
  abbrev second : Course
  second = chooses (at 2) (course (held (at 3)) (course (ends s) (course (stops (over (at 4))) no_courses)))

  abbrev whole : Course
  whole = chooses (at 1) (course (ends s) (course second (course (stops (over (at 5))) no_courses)))

  first_found : found 9 (walk whole) ≡ Some (over (at 4))
  first_found = refl

  not_deep_enough : found 2 (walk whole) ≡ Some (over (at 5))
  not_deep_enough = refl

  how_deep : weight whole ≡ 7
  how_deep = refl

  second_left : rest_after whole (2 ∷ []) ≡ Some second
  second_left = refl

  past_the_end : rest_after whole (1 ∷ 1 ∷ []) ≡ None
  past_the_end = refl
