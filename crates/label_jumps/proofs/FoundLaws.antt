-- The first of what was found and of what is still to be looked at.
use Rattle.std.proofs.Common.{◌≡◌, ℕ, ◌+◌, ◌<◌, ◌≤◌, List, [], ◌∷◌, ◌++◌, length, drop, map, get_or, Option, refl, sym, ap, ◌∙◌}
use Rattle.std.specs.List.{flat_map}
use Rattle.std.proofs.lemmas.List.{drop_more, drop_all}
use Rattle.tla_token.specs.declared.rule.Refusal.{Refusal}
use Rattle.pcal_tree.specs.Offences.{first}
use Rattle.algorithm_answer.specs.Joined.{joined}
use Rattle.algorithm_answer.proofs.Joins.{joined_assoc, joined_none, first_append}

-- one list after another
pub found_then : (a b c : Option Refusal) (xs ys : List Refusal) → b ≡ joined a (first xs) → c ≡ joined b (first ys) → c ≡ joined a (first (xs ++ ys))
found_then a b c xs ys h k =
    k ∙ ap (λ (o : Option Refusal). joined o (first ys)) h ∙ joined_assoc a (first xs) (first ys) ∙ ap (joined a) (sym (first_append xs ys))

-- one list before another
pub found_before : (a b : Option Refusal) (xs ys : List Refusal) → b ≡ joined a (first xs) → joined b (first ys) ≡ joined a (first (xs ++ ys))
found_before a b xs ys h = found_then a b (joined b (first ys)) xs ys h refl

-- of a list of things, what is left of it
module _ {X : Type 0} (f : X → List Refusal) (xs : List X) where
  pub found_more : (a b : Option Refusal) (i : ℕ) (x : X) → x ≡ get_or xs i x → i < length xs → b ≡ joined a (first (f x)) → joined b (first (flat_map f (drop (i + 1) xs))) ≡ joined a (first (flat_map f (drop i xs)))
  found_more a b i x e l h =
      found_before a b (f x) (flat_map f (drop (i + 1) xs)) h
      ∙ ap (λ (ys : List X). joined a (first (flat_map f ys))) (ap (λ (y : X). y ∷ drop (i + 1) xs) e ∙ sym (drop_more xs i x l))

  pub found_all : (a : Option Refusal) (i : ℕ) → length xs ≤ i → joined a (first (flat_map f (drop i xs))) ≡ a
  found_all a i l = ap (λ (ys : List X). joined a (first (flat_map f ys))) (drop_all i xs l) ∙ joined_none a

-- of things in memory, each with what it stands for
pub flat_mapped : {X Y Z : Type 0} (f : Y → List Z) (h : X → Y) (xs : List X) → flat_map (λ x. f (h x)) xs ≡ flat_map f (map h xs)
flat_mapped f h [] = refl
flat_mapped f h (x ∷ xs) = ap (λ (ys : List _). f (h x) ++ ys) (flat_mapped f h xs)

pub found_mapped : {X Y : Type 0} (f : Y → List Refusal) (h : X → Y) (xs : List X) (i : ℕ) (a b : Option Refusal) → length xs ≤ i
    → joined b (first (flat_map (λ x. f (h x)) (drop i xs))) ≡ joined a (first (flat_map (λ x. f (h x)) xs)) → b ≡ joined a (first (flat_map f (map h xs)))
found_mapped f h xs i a b l e =
    sym (found_all (λ x. f (h x)) xs b i l) ∙ e ∙ ap (λ (rs : List Refusal). joined a (first rs)) (flat_mapped f h xs)
