-- Lists in memory that are made of numbered members, member by member, as the pool grows.
use Rattle.std.proofs.Common.{◌≡◌, ℕ, suc, ◌+◌, ◌<◌, ◌≤◌, List, [], ◌∷◌, ◌++◌, length, map, take, get_or, sym, ap, ◌∙◌, arith}
use Rattle.std.proofs.lemmas.List.{map_push, take_more, take_all, length-map, length-take-le}
use Rattle.tla_tree.specs.Tree.{Tree}
use Rattle.tla_tree.specs.Pool.{Keeps}
use Rattle.tla_tree.specs.Nesting.{greatest}
use Rattle.pcal_tree.specs.Algorithm.{numbered}
use Rattle.pcal_tree.proofs.InMemoryEach.{past_one_more}
use Rattle.pcal_tree.proofs.InMemoryGrown.{each_kept}

-- what a member stands for stays as the pool grows
abbrev Grows : {A B : Type 0} → (A → ℕ) → (List Tree → A → B) → Type 0
Grows past f = (ts us : List Tree) → Keeps ts us → (a : _) → past a ≤ length ts → f us a ≡ f ts a

numbered_push : {B : Type 0} (h : ℕ → B → B) (n : ℕ) (xs : List B) (y : B) → numbered h n (xs ++ y ∷ []) ≡ numbered h n xs ++ h (n + length xs) y ∷ []
numbered_push h n [] y = ap (λ (k : ℕ). h k y ∷ []) (let e : n ≡ n + 0 = omega arith in e)
numbered_push h n (x ∷ xs) y =
    ap (λ ys. h n x ∷ ys) (numbered_push h (suc n) xs y ∙ ap (λ (k : ℕ). numbered h (suc n) xs ++ h k y ∷ []) (let e : suc n + length xs ≡ n + suc (length xs) = omega arith in e))

taken_length : {A : Type 0} (xs : List A) (i : ℕ) → i < length xs → length (take i xs) ≡ i
taken_length xs i less = length-take-le i xs (omega (arith, less))

-- the numbers are of the pool, with one member more
pub within_more : {A : Type 0} (past : A → ℕ) (ts us : List Tree) → Keeps ts us → (xs : List A) (r : A) → greatest (map past xs) ≤ length ts → past r ≤ length us
    → (ys : List A) → ys ≡ xs ++ r ∷ [] → greatest (map past ys) ≤ length us
within_more {A} past ts us k xs r within less ys e =
    let past_all = past_one_more past xs r in let all = ap (λ (l : List A). greatest (map past l)) e in omega (arith, all, past_all, within, k.longer, less)

-- in the first pool zs, and of it what P makes of its members
module _ {A B : Type 0} (past : A → ℕ) (f : List Tree → A → B) (grows : Grows past f) (old : List Tree) (h : ℕ → B → B) (n : ℕ) (zs : List A) where
  pub numbered_more : (ts us : List Tree) → Keeps ts us → (xs : List A) (i m : ℕ) (z r : A) → greatest (map past xs) ≤ length ts
      → map (f ts) xs ≡ numbered h n (map (f old) (take i zs)) → m ≡ n + i → z ≡ get_or zs i z → i < length zs → f us r ≡ h m (f old z)
      → (ys : List A) → ys ≡ xs ++ r ∷ [] → map (f us) ys ≡ numbered h n (map (f old) (take (i + 1) zs))
  numbered_more ts us k xs i m z r within made number here less same ys e =
      let so_many : length (map (f old) (take i zs)) ≡ i = length-map (take i zs) (f old) ∙ taken_length zs i less in
      ap (map (f us)) e
      ∙ map_push (f us) xs r
      ∙ (λ j. (each_kept ts us k (f us) (f ts) past (grows ts us k) xs within ∙ made) j ++ (same ∙ ap (λ (l : ℕ). h l (f old z)) (number ∙ ap (λ (l : ℕ). n + l) (sym so_many))) j ∷ [])
      ∙ sym (numbered_push h n (map (f old) (take i zs)) (f old z))
      ∙ ap (numbered h n) (sym (map_push (f old) (take i zs) z))
      ∙ ap (λ (l : List A). numbered h n (map (f old) l)) (sym (take_more zs i z less ∙ ap (λ (y : A). take i zs ++ y ∷ []) (sym here)))

  pub numbered_all : (ts : List Tree) (xs : List A) (i : ℕ) → length zs ≤ i → map (f ts) xs ≡ numbered h n (map (f old) (take i zs)) → map (f ts) xs ≡ numbered h n (map (f old) zs)
  numbered_all ts xs i less made = made ∙ ap (λ (l : List A). numbered h n (map (f old) l)) (take_all i zs less)
