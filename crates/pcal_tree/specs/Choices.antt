-- Courses by choices: the one that a list of choices picks, and the first that meets trouble.
use Rattle.std.specs.Prelude.{ℕ, zero, suc, List, [], ◌∷◌, Option, Some, None}
use Rattle.std.specs.Option.{option_or}
use Rattle.tla_token.specs.declared.place.Place.{Place}
use Rattle.pcal_tree.specs.Scope.{State}
use Rattle.pcal_tree.specs.Run.{Course, ends, stops, chooses, Courses, no_courses, course}
use Rattle.tla_value.specs.Value.{Trouble}

-- what comes of a list of choices, each the number, from 1, of a branch or of a member of the set
pub data Walk : Type 0 where
  went : State → List ℕ → Walk  -- the end, with the choices that are left over
  failed : Trouble → Walk
  blocked : Place → Walk  -- a false `await`, or an empty set
  wanting : ℕ → Place → Walk  -- a choice that is missing, or is none of so many courses

abbrev pub count_courses : Courses → ℕ
count_courses no_courses = 0
count_courses (course c cs) = suc (count_courses cs)

abbrev pub missing : Courses → Place → Walk
missing no_courses at = blocked at
missing (course c cs) at = wanting (suc (count_courses cs)) at

abbrev mutual
  pub walk : Course → List ℕ → Walk
  walk (ends t) ns = went t ns
  walk (stops k) ns = failed k
  walk (chooses at cs) [] = missing cs at
  walk (chooses at cs) (n ∷ ns) = walk_into (missing cs at) cs n ns

  -- the nth course; otherwise, where there is none
  pub walk_into : Walk → Courses → ℕ → List ℕ → Walk
  walk_into otherwise (course c cs) (suc zero) ns = walk c ns
  walk_into otherwise (course c cs) (suc (suc n)) ns = walk_into otherwise cs (suc n) ns
  walk_into otherwise _ _ ns = otherwise

-- the trouble of the least list of choices, item by item, that meets one
abbrev mutual
  pub first_trouble : Course → Option Trouble
  first_trouble (ends t) = None
  first_trouble (stops k) = Some k
  first_trouble (chooses at cs) = first_trouble_of cs

  pub first_trouble_of : Courses → Option Trouble
  first_trouble_of no_courses = None
  first_trouble_of (course c cs) = option_or (first_trouble c) (first_trouble_of cs)
