-- The search over what lists of choices come to finds the first trouble of a course.
use Rattle.std.proofs.Common.{◌≡◌, ◌≤◌, ◌+◌, ℕ, zero, suc, List, ◌∷◌, Option, refl, sym, ◌∙◌, arith}
use Rattle.std.specs.Option.{option_or}
use Rattle.tla_value.specs.Value.{Trouble}
use Rattle.pcal_tree.specs.Run.{Course, ends, stops, chooses, Courses, no_courses, course}
use Rattle.pcal_tree.specs.Choices.{Walk, count_courses, missing, walk, walk_into, first_trouble, first_trouble_of}
use Rattle.written_runs.specs.Searches.{weight, weight_of, found_among, found}

weighs : (c : Course) → 1 ≤ weight c
weighs (ends t) = omega arith
weighs (stops k) = omega arith
weighs (chooses at cs) = omega arith

mutual
  pub finds : (c : Course) (d : ℕ) → weight c ≤ d → found d (walk c) ≡ first_trouble c
  finds c zero h = let p = weighs c in absurd (omega (arith, p, h))
  finds (ends t) (suc d) h = refl
  finds (stops k) (suc d) h = refl
  finds (chooses at no_courses) (suc d) h = refl
  finds (chooses at (course c cs)) (suc d) h =
      finds_among (missing (course c cs) at) (course c cs) d (λ n. found d (λ ns. walk (chooses at (course c cs)) (n ∷ ns))) (λ n. refl) (omega (arith, h))

  -- where each number leads to what the course of the number does
  finds_among : (w : Walk) (cs : Courses) (d : ℕ) (lead : ℕ → Option Trouble) → ((n : ℕ) → lead (suc n) ≡ found d (λ ns. walk_into w cs (suc n) ns)) → weight_of cs ≤ d
      → found_among lead (count_courses cs) ≡ first_trouble_of cs
  finds_among w no_courses d lead e h = refl
  finds_among w (course c cs) d lead e h =
      λ i. option_or ((e zero ∙ finds c d (omega (arith, h))) i) (finds_among w cs d (λ n. lead (suc n)) (λ n. e (suc n)) (omega (arith, h)) i)

-- so courses that come to the same by each list of choices have the same
pub same_first : (b c : Course) → ((ns : List ℕ) → walk b ns ≡ walk c ns) → first_trouble b ≡ first_trouble c
same_first b c e =
    let d = weight b + weight c in
    sym (finds b d (omega arith)) ∙ (λ i. found d (λ ns. e ns i)) ∙ finds c d (omega arith)
