-- What is left of a course after some choices: what they come to, what one more leaves, and that it is less.
use Rattle.std.proofs.Common.{◌≡◌, ◌≤◌, ◌<◌, ℕ, zero, suc, List, [], ◌∷◌, ◌++◌, Some, refl, sym, ap, arith}
use Rattle.std.specs.Option.{option_or}
use Rattle.tla_token.specs.declared.place.Place.{Place}
use Rattle.pcal_tree.specs.Run.{Course, ends, stops, chooses, Courses, no_courses, course}
use Rattle.pcal_tree.specs.Choices.{Walk, wanting, count_courses, missing, walk, walk_into, first_trouble, first_trouble_of}
use Rattle.written_runs.specs.Searches.{rest_after, rest_among, courses_past, weight, weight_of}

inside : {X : Type 0} {x y : X} → Some x ≡ Some y → y ≡ x
inside e = cc

-- ---- what the choices come to

mutual
  pub rest_walked : (c r : Course) (ns : List ℕ) → rest_after c ns ≡ Some r → walk c ns ≡ walk r []
  rest_walked c r [] e = ap (λ (x : Course). walk x []) (sym (inside e))
  rest_walked (ends t) r (n ∷ ns) e = cc
  rest_walked (stops k) r (n ∷ ns) e = cc
  rest_walked (chooses at cs) r (n ∷ ns) e = among_walked (missing cs at) cs r n ns e

  among_walked : (w : Walk) (cs : Courses) (r : Course) (n : ℕ) (ns : List ℕ) → rest_among cs n ns ≡ Some r → walk_into w cs n ns ≡ walk r []
  among_walked w no_courses r n ns e = cc
  among_walked w (course c cs) r zero ns e = cc
  among_walked w (course c cs) r (suc zero) ns e = rest_walked c r ns e
  among_walked w (course c cs) r (suc (suc n)) ns e = among_walked w cs r (suc n) ns e

-- so many courses are left where a choice of so many is wanted
pub wants : (r : Course) (n : ℕ) (at : Place) → walk r [] ≡ wanting n at → (cs : Courses) × (r ≡ chooses at cs) × (count_courses cs ≡ n)
wants (ends t) n at e = cc
wants (stops k) n at e = cc
wants (chooses p no_courses) n at e = cc
wants (chooses p (course c cs)) n at e = (course c cs, place e, count e)
  where
    place : wanting (suc (count_courses cs)) p ≡ wanting n at → chooses p (course c cs) ≡ chooses at (course c cs)
    place q = cc

    count : wanting (suc (count_courses cs)) p ≡ wanting n at → suc (count_courses cs) ≡ n
    count q = cc

-- ---- one more

mutual
  pub longer : (c : Course) (ns : List ℕ) (at : Place) (cs : Courses) (n : ℕ) → rest_after c ns ≡ Some (chooses at cs) → rest_after c (ns ++ n ∷ []) ≡ rest_among cs n []
  longer c [] at cs n e = ap (λ (x : Course). rest_after x (n ∷ [])) (sym (inside e))
  longer (ends t) (m ∷ ns) at cs n e = cc
  longer (stops k) (m ∷ ns) at cs n e = cc
  longer (chooses p ds) (m ∷ ns) at cs n e = among_longer ds m ns at cs n e

  among_longer : (ds : Courses) (m : ℕ) (ns : List ℕ) (at : Place) (cs : Courses) (n : ℕ) → rest_among ds m ns ≡ Some (chooses at cs) → rest_among ds m (ns ++ n ∷ []) ≡ rest_among cs n []
  among_longer no_courses m ns at cs n e = cc
  among_longer (course c ds) zero ns at cs n e = cc
  among_longer (course c ds) (suc zero) ns at cs n e = longer c ns at cs n e
  among_longer (course c ds) (suc (suc m)) ns at cs n e = among_longer ds (suc m) ns at cs n e

pub less : (cs : Courses) (n : ℕ) (r : Course) → rest_among cs n [] ≡ Some r → weight r ≤ weight_of cs
less no_courses n r e = cc
less (course c cs) zero r e = cc
less (course c cs) (suc zero) r e = let p = ap weight (inside e) in omega (arith, p)
less (course c cs) (suc (suc n)) r e = let h = less cs (suc n) r e in omega (arith, h)

-- ---- each in turn

-- the first of the rest of some courses, and those after it
pub record Next (cs : Courses) (n : ℕ) : Type 0 where
  pub first : Course
  pub is : rest_among cs (suc n) [] ≡ Some first
  pub troubles : first_trouble_of (courses_past cs n) ≡ option_or (first_trouble first) (first_trouble_of (courses_past cs (suc n)))

pub next : (cs : Courses) (n : ℕ) → n < count_courses cs → Next cs n
next no_courses n h = absurd (omega (arith, h))
next (course c cs) zero h = record { first = c; is = refl; troubles = refl }
next (course c cs) (suc n) h = by (next cs n (omega (arith, h)))
  where
    by : Next cs n → Next (course c cs) (suc n)
    by q = record { first = q.first; is = q.is; troubles = q.troubles }

pub all_past : (cs : Courses) → courses_past cs (count_courses cs) ≡ no_courses
all_past no_courses = refl
all_past (course c cs) = all_past cs
