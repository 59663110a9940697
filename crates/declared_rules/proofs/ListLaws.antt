-- What is gone through of a list, one more of it, and the numbers of its items.
use Rattle.std.proofs.Common.{◌≡◌, ℕ, zero, suc, ◌+◌, ◌<◌, ◌≤◌, List, [], ◌∷◌, ◌++◌, length, map, take, get_or, slice_index_or, sym, ap, ◌∙◌, append-nil, arith}
use Rattle.std.specs.List.{flat_map}
use Rattle.std.proofs.lemmas.List.{take_more}
use Rattle.std.proofs.lemmas.Grind.{flat_map-append}
use Rattle.tla_tree.specs.Nesting.{greatest}

pub item_of : {A B : Type 0} (f : A → List B) (xs : List A) (i : ℕ) (d : A) → i < length xs → flat_map f (take i xs) ++ f (get_or xs i d) ≡ flat_map f (take (i + 1) xs)
item_of {B = B} f xs i d less =
    sym (ap (flat_map f) (take_more xs i d less) ∙ flat_map-append f (take i xs) (get_or xs i d ∷ []) ∙ ap (λ (l : List B). flat_map f (take i xs) ++ l) (append-nil (f (get_or xs i d))))

pub more_of : {A B : Type 0} (f : A → List B) (xs : List A) (i : ℕ) (x : A) → x ≡ get_or xs i x → i < length xs → flat_map f (take i xs) ++ f x ≡ flat_map f (take (i + 1) xs)
more_of f xs i x e less = ap (λ y. flat_map f (take i xs) ++ f y) e ∙ item_of f xs i x less

-- one of a list is past no number that the list is
pub past_item : {A : Type 0} (f : A → ℕ) (xs : List A) (i : ℕ) (d : A) → i < length xs → f (slice_index_or xs i d) ≤ greatest (map f xs)
past_item f [] i d less = absurd (omega (arith, less))
past_item f (x ∷ xs) zero d less = omega arith
past_item f (x ∷ xs) (suc i) d less = let h = past_item f xs i d (omega (arith, less)) in omega (arith, h)
