-- What the members of a list give, put behind other things member by member: what is there, with what those that are left give, is the whole.
use Rattle.std.proofs.Common.{◌≡◌, ℕ, suc, ◌+◌, ◌<◌, ◌≤◌, List, [], ◌∷◌, ◌++◌, length, drop, get_or, map, sym, ap, ◌∙◌, append_assoc, append-nil, arith}
use Rattle.std.proofs.lemmas.List.{drop_more, drop_all}
use Rattle.std.specs.List.{flat_map}
use Rattle.pcal_tree.specs.Algorithm.{numbered}

-- one thing of each member
module _ {X W : Type 0} (f : X → W) (xs : List X) where
  pub map_more : (i : ℕ) (x : X) → x ≡ get_or xs i x → i < length xs → (now new all : List W) → new ≡ now ++ f x ∷ []
      → now ++ map f (drop i xs) ≡ all → new ++ map f (drop (i + 1) xs) ≡ all
  map_more i x is less now new all a h =
      let rest = map f (drop (i + 1) xs) in
      ap (λ (ys : List W). ys ++ rest) a ∙ append_assoc now (f x ∷ []) rest
      ∙ ap (λ (ys : List X). now ++ map f ys) (ap (λ (y : X). y ∷ drop (i + 1) xs) is ∙ sym (drop_more xs i x less)) ∙ h

  pub map_all : (i : ℕ) (now all : List W) → length xs ≤ i → now ++ map f (drop i xs) ≡ all → now ≡ all
  map_all i now all less h = sym (append-nil now) ∙ ap (λ (ys : List X). now ++ map f ys) (sym (drop_all i xs less)) ∙ h

-- some things of each member
module _ {X W : Type 0} (g : X → List W) (xs : List X) where
  pub each_more : (i : ℕ) (x : X) → x ≡ get_or xs i x → i < length xs → (now new all : List W) → new ≡ now ++ g x
      → now ++ flat_map g (drop i xs) ≡ all → new ++ flat_map g (drop (i + 1) xs) ≡ all
  each_more i x is less now new all a h =
      let rest = flat_map g (drop (i + 1) xs) in
      ap (λ (ys : List W). ys ++ rest) a ∙ append_assoc now (g x) rest
      ∙ ap (λ (ys : List X). now ++ flat_map g ys) (ap (λ (y : X). y ∷ drop (i + 1) xs) is ∙ sym (drop_more xs i x less)) ∙ h

  pub each_all : (i : ℕ) (now all : List W) → length xs ≤ i → now ++ flat_map g (drop i xs) ≡ all → now ≡ all
  each_all i now all less h = sym (append-nil now) ∙ ap (λ (ys : List X). now ++ flat_map g ys) (sym (drop_all i xs less)) ∙ h

-- some things of each, where the members are numbered
module _ {X Y R W : Type 0} (g : R → List W) (r : ℕ → Y → R) (to : X → Y) (xs : List X) where
  pub numbered_more : (i n m : ℕ) (x : X) → x ≡ get_or xs i x → i < length xs → m ≡ n + 1 → (now new all : List W) → new ≡ now ++ g (r n (to x))
      → now ++ flat_map g (numbered r n (map to (drop i xs))) ≡ all → new ++ flat_map g (numbered r m (map to (drop (i + 1) xs))) ≡ all
  numbered_more i n m x is less e now new all a h =
      let rest = flat_map g (numbered r (suc n) (map to (drop (i + 1) xs))) in
      let next : m ≡ suc n = omega (arith, e) in
      ap (λ (k : ℕ). new ++ flat_map g (numbered r k (map to (drop (i + 1) xs)))) next
      ∙ ap (λ (ys : List W). ys ++ rest) a ∙ append_assoc now (g (r n (to x))) rest
      ∙ ap (λ (ys : List X). now ++ flat_map g (numbered r n (map to ys))) (ap (λ (y : X). y ∷ drop (i + 1) xs) is ∙ sym (drop_more xs i x less)) ∙ h

  pub numbered_all : (i n : ℕ) (now all : List W) → length xs ≤ i → now ++ flat_map g (numbered r n (map to (drop i xs))) ≡ all → now ≡ all
  numbered_all i n now all less h = sym (append-nil now) ∙ ap (λ (ys : List X). now ++ flat_map g (numbered r n (map to ys))) (sym (drop_all i xs less)) ∙ h
