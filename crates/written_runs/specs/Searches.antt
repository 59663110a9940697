-- What is left of a course after some choices, and the search for its first trouble over what lists of choices come to.
use Rattle.std.specs.Prelude.{◌+◌, ℕ, zero, suc, List, [], ◌∷◌, Option, Some, None}
use Rattle.std.specs.Option.{option_or}
use Rattle.tla_value.specs.Value.{Trouble}
use Rattle.pcal_tree.specs.Run.{Course, ends, stops, chooses, Courses, no_courses, course}
use Rattle.pcal_tree.specs.Choices.{Walk, failed, wanting}

-- ---- courses

-- what is left after choices each of which is wanted, and is one of those that there are
abbrev mutual
  pub rest_after : Course → List ℕ → Option Course
  rest_after c [] = Some c
  rest_after (chooses at cs) (n ∷ ns) = rest_among cs n ns
  rest_after _ (n ∷ ns) = None

  pub rest_among : Courses → ℕ → List ℕ → Option Course
  rest_among (course c cs) (suc zero) ns = rest_after c ns
  rest_among (course c cs) (suc (suc n)) ns = rest_among cs (suc n) ns
  rest_among _ _ ns = None

-- without the first so many
abbrev pub courses_past : Courses → ℕ → Courses
courses_past cs zero = cs
courses_past (course c cs) (suc n) = courses_past cs n
courses_past no_courses (suc n) = no_courses

-- how many ends, troubles and choices there are in it; each choice leaves less
abbrev mutual
  pub weight : Course → ℕ
  weight (ends t) = 1
  weight (stops k) = 1
  weight (chooses at cs) = suc (weight_of cs)

  pub weight_of : Courses → ℕ
  weight_of no_courses = 0
  weight_of (course c cs) = weight c + weight_of cs

-- ---- the search

-- the first of what so many numbers, from 1, lead to
abbrev pub found_among : (ℕ → Option Trouble) → ℕ → Option Trouble
found_among lead zero = None
found_among lead (suc n) = option_or (lead 1) (found_among (λ k. lead (suc k)) n)

abbrev pub found_by : (ℕ → Option Trouble) → Walk → Option Trouble
found_by lead (failed k) = Some k
found_by lead (wanting n at) = found_among lead n
found_by lead _ = None

-- where a choice is wanted each number is tried in turn, to so many choices less one
abbrev pub found : ℕ → (List ℕ → Walk) → Option Trouble
found zero walks = None
found (suc d) walks = found_by (λ n. found d (λ ns. walks (n ∷ ns))) (walks [])
