-- The choices that are tried in turn, where one of so many is wanted.
use Rattle.std.proofs.Common.{◌≡◌, ℕ, ◌+◌, ◌<◌, ◌≤◌, zero, suc, List, [], ◌∷◌, ◌++◌, Option, Some, None, refl, sym, ap, subst, ◌∙◌, arith}
use Rattle.std.specs.Option.{option_or, option_map}
use Rattle.tla_token.specs.declared.place.Place.{Place}
use Rattle.tla_value.specs.Value as pure
use Rattle.pcal_tree.specs.Choices.{count_courses, first_trouble, first_trouble_of}
use Rattle.pcal_tree.specs.Run.{Course, chooses, Courses, no_courses, course}
use Rattle.run_files.specs.declared.stops.Trouble.{Trouble}
use Rattle.run_files.specs.InMemory.{trouble_of}
use Rattle.written_runs.specs.Searches.{rest_after, courses_past, weight}
use Rattle.written_runs.proofs.RestLaws.{longer, less, Next, next}
use Rattle.followed_runs.specs.Tries.{Chooses}

-- what there is left
abbrev pub left_weight : Option Course → ℕ
left_weight None = 0
left_weight (Some c) = weight c

past_all : (cs : Courses) (i : ℕ) → count_courses cs ≤ i → courses_past cs i ≡ no_courses
past_all no_courses zero h = refl
past_all no_courses (suc i) h = refl
past_all (course c cs) zero h = absurd (omega (arith, h))
past_all (course c cs) (suc i) h = past_all cs i (omega (arith, h))

module _ (whole : Course) (ns : List ℕ) where
  -- those before i were tried, and met no trouble
  abbrev pub TriedTo : ℕ → Type 0
  TriedTo i = (at : Place) (cs : Courses) → rest_after whole ns ≡ Some (chooses at cs) → first_trouble_of (courses_past cs i) ≡ first_trouble_of cs

  -- one of so many is wanted
  abbrev pub IsLeft : Type 0
  IsLeft = (c : Course) × (rest_after whole ns ≡ Some c)

  abbrev pub Wanted : ℕ → Type 0
  Wanted count = (c : Course) → rest_after whole ns ≡ Some c → Chooses count c

  record Choice (count : ℕ) : Type 0 where
    place : Place
    courses : Courses
    is : rest_after whole ns ≡ Some (chooses place courses)
    counted : count_courses courses ≡ count

  choice : (count : ℕ) → IsLeft → Wanted count → Choice count
  choice count l w = by (w l.0 l.1)
    where
      by : Chooses count l.0 → Choice count
      by q = record { place = q.0; courses = q.1; is = l.1 ∙ ap Some q.2; counted = q.3 }

  -- ---- one of them

  module _ (more : List ℕ) (i count : ℕ) (l : IsLeft) (w : Wanted count) (e : more ≡ ns ++ suc i ∷ []) (h : i < count) where
    abbrev one : Choice count
    one = choice count l w

    turn : Next one.courses i
    turn = let p = one.counted in next one.courses i (omega (arith, p, h))

    leaves : rest_after whole more ≡ Some turn.first
    leaves = ap (rest_after whole) e ∙ longer whole ns one.place one.courses (suc i) one.is ∙ turn.is

    pub is_left : (c : Course) × (rest_after whole more ≡ Some c)
    is_left = (turn.first, leaves)

    pub lighter : left_weight (rest_after whole more) < left_weight (rest_after whole ns)
    lighter =
        let a = ap left_weight leaves in
        let b = ap left_weight one.is in
        let d = less one.courses (suc i) turn.first turn.is in
        omega (arith, a, b, d)

    -- what is found behind it
    module _ (o : Option Trouble) (f : (c : Course) → rest_after whole more ≡ Some c → option_map trouble_of o ≡ first_trouble c) (tried : TriedTo i) where
      found_so : first_trouble_of one.courses ≡ option_or (option_map trouble_of o) (first_trouble_of (courses_past one.courses (suc i)))
      found_so =
          sym (tried one.place one.courses one.is) ∙ turn.troubles ∙ ap (λ (k : Option pure.Trouble). option_or k (first_trouble_of (courses_past one.courses (suc i)))) (sym (f turn.first leaves))

      -- of each way in which the same is left
      same_courses : (at : Place) (cs : Courses) → rest_after whole ns ≡ Some (chooses at cs) → cs ≡ one.courses
      same_courses at cs q = by (sym one.is ∙ q)
        where
          by : Some (chooses one.place one.courses) ≡ Some (chooses at cs) → cs ≡ one.courses
          by z = cc

      pub none_behind : o ≡ None → TriedTo (i + 1)
      none_behind none at cs q =
          let z = same_courses at cs q in
          let k : suc i ≡ i + 1 = omega arith in
          subst (λ (ds : Courses). first_trouble_of (courses_past ds (i + 1)) ≡ first_trouble_of ds) (sym z)
          (ap (λ (j : ℕ). first_trouble_of (courses_past one.courses j)) (sym k) ∙ sym (found_so ∙ ap (λ (x : Option Trouble). option_or (option_map trouble_of x) (first_trouble_of (courses_past one.courses (suc i)))) none))

      pub some_behind : (t : Trouble) → o ≡ Some t → (c : Course) → rest_after whole ns ≡ Some c → Some (trouble_of t) ≡ first_trouble c
      some_behind t some c q =
          let here : first_trouble_of one.courses ≡ Some (trouble_of t) = found_so ∙ ap (λ (x : Option Trouble). option_or (option_map trouble_of x) (first_trouble_of (courses_past one.courses (suc i)))) some in
          sym here ∙ ap first_trouble (by (sym one.is ∙ q))
        where
          by : Some (chooses one.place one.courses) ≡ Some c → chooses one.place one.courses ≡ c
          by z = cc

  -- ---- all of them

  pub all_tried : (i count : ℕ) → count ≤ i → IsLeft → Wanted count → TriedTo i → (c : Course) → rest_after whole ns ≡ Some c → None ≡ first_trouble c
  all_tried i count n l w tried c q = by (choice count l w)
    where
      by : Choice count → None ≡ first_trouble c
      by one =
          let p = one.counted in
          ap first_trouble_of (sym (past_all one.courses i (omega (arith, p, n)))) ∙ tried one.place one.courses one.is ∙ ap first_trouble (same (sym one.is ∙ q))
        where
          same : Some (chooses one.place one.courses) ≡ Some c → chooses one.place one.courses ≡ c
          same z = cc
