-- What is put behind other things, one after another.
use Rattle.std.proofs.Common.{◌≡◌, ℕ, suc, ◌+◌, ◌<◌, ◌≤◌, List, [], ◌∷◌, ◌++◌, length, drop, get_or, map, sym, ap, ◌∙◌, append_assoc, append-nil, arith}
use Rattle.std.proofs.lemmas.List.{map_push, map-append, drop_more, drop_all}
use Rattle.pcal_tree.specs.Algorithm.{numbered}
use Rattle.tla_tree.specs.Tree.{Tree}
use Rattle.tla_tree.specs.Pool.{at, AllBelow, Keeps}
use Rattle.tla_tree.proofs.PoolNumbers.{map_at-kept}
use Rattle.module_formulas.specs.Added.{Adds}

-- one more number
pub adds_one : (ts us : List Tree) (is js : List ℕ) (i : ℕ) (t : Tree) → Keeps ts us → AllBelow (length ts) is → at us i ≡ t → js ≡ is ++ i ∷ [] → Adds ts us is js (t ∷ [])
adds_one ts us is js i t k h e more =
    ap (map (at us)) more ∙ map_push (at us) is i ∙ (λ j. map_at-kept ts us is k h j ++ e j ∷ [])

-- two more
pub adds_two : (ts us : List Tree) (is js : List ℕ) (i k : ℕ) (t v : Tree) → Keeps ts us → AllBelow (length ts) is → at us i ≡ t → at us k ≡ v → js ≡ is ++ i ∷ k ∷ [] → Adds ts us is js (t ∷ v ∷ [])
adds_two ts us is js i k t v h b e f more =
    ap (map (at us)) more ∙ map-append (at us) is (i ∷ k ∷ []) ∙ (λ j. map_at-kept ts us is h b j ++ e j ∷ f j ∷ [])

pub adds_then : (ts us vs : List Tree) (is js ks : List ℕ) (xs ys : List Tree) → Adds ts us is js xs → Adds us vs js ks ys → Adds ts vs is ks (xs ++ ys)
adds_then ts us vs is js ks xs ys h k = k ∙ ap (λ (l : List Tree). l ++ ys) h ∙ append_assoc (map (at ts) is) xs ys

-- ---- one thing of each member of a list, which stands for another

module _ {X Y W : Type 0} (f : Y → W) (to : X → Y) (xs : List X) where
  pub mapped_more : (i : ℕ) (x : X) → x ≡ get_or xs i x → i < length xs → (now new all : List W) → new ≡ now ++ f (to x) ∷ []
      → now ++ map f (map to (drop i xs)) ≡ all → new ++ map f (map to (drop (i + 1) xs)) ≡ all
  mapped_more i x is less now new all a h =
      let rest = map f (map to (drop (i + 1) xs)) in
      ap (λ (ys : List W). ys ++ rest) a ∙ append_assoc now (f (to x) ∷ []) rest
      ∙ ap (λ (ys : List X). now ++ map f (map to ys)) (ap (λ (y : X). y ∷ drop (i + 1) xs) is ∙ sym (drop_more xs i x less)) ∙ h

  pub mapped_all : (i : ℕ) (now all : List W) → length xs ≤ i → now ++ map f (map to (drop i xs)) ≡ all → now ≡ all
  mapped_all i now all less h = sym (append-nil now) ∙ ap (λ (ys : List X). now ++ map f (map to ys)) (sym (drop_all i xs less)) ∙ h

-- where the members are numbered
module _ {X Y R W : Type 0} (f : R → W) (r : ℕ → Y → R) (to : X → Y) (xs : List X) where
  pub counted_more : (i n m : ℕ) (x : X) → x ≡ get_or xs i x → i < length xs → m ≡ n + 1 → (now new all : List W) → new ≡ now ++ f (r n (to x)) ∷ []
      → now ++ map f (numbered r n (map to (drop i xs))) ≡ all → new ++ map f (numbered r m (map to (drop (i + 1) xs))) ≡ all
  counted_more i n m x is less e now new all a h =
      let rest = map f (numbered r (suc n) (map to (drop (i + 1) xs))) in
      let next : m ≡ suc n = omega (arith, e) in
      ap (λ (k : ℕ). new ++ map f (numbered r k (map to (drop (i + 1) xs)))) next
      ∙ ap (λ (ys : List W). ys ++ rest) a ∙ append_assoc now (f (r n (to x)) ∷ []) rest
      ∙ ap (λ (ys : List X). now ++ map f (numbered r n (map to ys))) (ap (λ (y : X). y ∷ drop (i + 1) xs) is ∙ sym (drop_more xs i x less)) ∙ h

  pub counted_all : (i n : ℕ) (now all : List W) → length xs ≤ i → now ++ map f (numbered r n (map to (drop i xs))) ≡ all → now ≡ all
  counted_all i n now all less h = sym (append-nil now) ∙ ap (λ (ys : List X). now ++ map f (numbered r n (map to ys))) (sym (drop_all i xs less)) ∙ h
