-- What uses tell, as more of them are kept, each once.
use Rattle.std.proofs.Common.{◌≡◌, List, [], ◌∷◌, ◌++◌, Bool, true, false, ◌||◌, refl, sym, ap, ◌∙◌, append-nil}
use Rattle.std.specs.Prelude.{if◌then◌else◌}
use Rattle.std.specs.List.{list_any, flat_map}
use Rattle.std.proofs.lemmas.List.Folds.{list_any-append}
use Rattle.std.proofs.lemmas.Grind.{flat_map-append}
use Rattle.tla_token.specs.declared.rule.Refusal.{Refusal}
use Rattle.pcal_tree.specs.Offences.{first}
use Rattle.pcal_tree.proofs.SetLaws.{any_flat, Sound}
use Rattle.pcal_tree.proofs.FirstLaws.{same_first}
use Rattle.algorithm_answer.specs.Joined.{joined}
use Rattle.algorithm_answer.proofs.Joins.{first_append}
use Rattle.tla_value.proofs.OrderSets.{either_twice}
use Rattle.indexmap.specs.IndexSet.{insert_key}

-- ---- each once

or_later : (a b c : Bool) → c ≡ (a || c) → (b || c) ≡ (a || (b || c))
or_later true true c e = refl
or_later false true c e = refl
or_later a false c e = e

absorbed : {X : Type 0} (same : X → X → Bool) → Sound same → (f : X → Bool) (x : X) (xs : List X) → list_any (same x) xs ≡ true → list_any f xs ≡ (f x || list_any f xs)
absorbed same sound f x [] e = cc
absorbed {X = X} same sound f x (y ∷ xs) e = by (same x y) refl e (absorbed same sound f x xs)
  where
    by : (b : Bool) → same x y ≡ b → (b || list_any (same x) xs) ≡ true → (list_any (same x) xs ≡ true → list_any f xs ≡ (f x || list_any f xs))
        → (f y || list_any f xs) ≡ (f x || (f y || list_any f xs))
    by true h e rest = either_twice (f y) (list_any f xs) ∙ ap (λ (z : X). f z || (f y || list_any f xs)) (sym (sound x y h))
    by false h e rest = or_later (f x) (f y) (list_any f xs) (rest e)

or_of : (a b c : Bool) → b ≡ a → c ≡ (a || c) → (c || b) ≡ c
or_of true b c e h = (λ i. h i || e i) ∙ sym h
or_of false true c e h = cc
or_of false false true e h = refl
or_of false false false e h = refl

module _ {X : Type 0} (h : X → List Refusal) (same : X → X → Bool) (sound : Sound same) where
  known_again : (xs : List X) (x : X) → list_any (same x) xs ≡ true → first (flat_map h xs ++ h x) ≡ first (flat_map h xs)
  known_again xs x e =
      same_first (flat_map h xs ++ h x) (flat_map h xs) (λ f.
      list_any-append f (flat_map h xs) (h x)
      ∙ or_of (list_any f (h x)) (list_any f (h x)) (list_any f (flat_map h xs)) refl
      (any_flat f h xs ∙ absorbed same sound (λ y. list_any f (h y)) x xs e ∙ ap (λ (b : Bool). list_any f (h x) || b) (sym (any_flat f h xs))))

  pub kept_once : (xs : List X) (x : X) → first (flat_map h (insert_key same xs x)) ≡ joined (first (flat_map h xs)) (first (h x))
  kept_once xs x = by (list_any (same x) xs) refl
    where
      by : (b : Bool) → list_any (same x) xs ≡ b → first (flat_map h (if b then xs else xs ++ x ∷ [])) ≡ joined (first (flat_map h xs)) (first (h x))
      by true e = sym (known_again xs x e) ∙ first_append (flat_map h xs) (h x)
      by false e =
          ap first (flat_map-append h xs (x ∷ [])) ∙ first_append (flat_map h xs) (h x ++ [])
          ∙ ap (λ (rs : List Refusal). joined (first (flat_map h xs)) (first rs)) (append-nil (h x))
