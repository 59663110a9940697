-- A comment in which a text with paired marks takes the place of another ends where it did.
use Rattle.std.proofs.Common.{◌≡◌, ℕ, zero, suc, ◌||◌, ◌&&◌, nat_eq, Bool, true, false, [], ◌∷◌, ◌++◌, refl}
use Rattle.std.proofs.lemmas.Bool.{or_parts, not-true}
use Rattle.tla_token.specs.Tokens.{is_pair, Closes}
use Rattle.module_tree.specs.TextFront.{Text}
use Rattle.module_tree.specs.laws.Swaps.{is_paired}

-- k more
abbrev more : ℕ → ℕ → ℕ
more zero d = d
more (suc k) d = suc (more k d)

abbrev Both : Type 0 → Type 0 → Type 0
Both P Q = (P → Q) × (Q → P)

apart : (a b c x : ℕ) → nat_eq a x ≡ false → is_pair x c a b ≡ false
apart a b c x h = rw h refl

-- after it as many are open as before it
paired_over : (k d : ℕ) (v s : Text) → is_paired k v ≡ true → Both (Closes (suc (more k d)) (v ++ s)) (Closes (suc d) s)
paired_over zero d [] s h = ((λ c. c), (λ c. c))
paired_over (suc k) d [] s h = absurd cc
paired_over zero d (a ∷ []) [] h = ((λ c. c), (λ c. c))
paired_over zero d (a ∷ []) (b ∷ s) h =
    let e = or_parts (nat_eq a 40) (nat_eq a 42) (not-true (nat_eq a 40 || nat_eq a 42) h) in
    let i = apart a b 42 40 e.0 in
    let j = apart a b 41 42 e.1 in
    ((λ c. (let g : Closes (suc d) (b ∷ s) = rw (i, j) at c in g)), (λ c. rw (i, j) c))
paired_over (suc k) d (a ∷ []) s h = absurd cc
paired_over zero d (a ∷ b ∷ v) s h = by (is_pair 40 42 a b) refl (is_pair 42 41 a b) refl (paired_over 1 d v s) (paired_over zero d (b ∷ v) s)
  where
    by : (i : Bool) → is_pair 40 42 a b ≡ i → (j : Bool) → is_pair 42 41 a b ≡ j
        → (is_paired 1 v ≡ true → Both (Closes (suc (suc d)) (v ++ s)) (Closes (suc d) s)) → (is_paired zero (b ∷ v) ≡ true → Both (Closes (suc d) (b ∷ (v ++ s))) (Closes (suc d) s))
        → Both (Closes (suc d) (a ∷ b ∷ (v ++ s))) (Closes (suc d) s)
    by true i j jj x y =
        let g : is_paired 1 v ≡ true = rw i at h in
        let r = x g in
        ((λ c. (let f : Closes (suc (suc d)) (v ++ s) = rw i at c in r.0 f)), (λ c. rw i (r.1 c)))
    by false i true j x y = (let g : false ≡ true = rw (i, j) at h in absurd cc)
    by false i false j x y =
        let g : is_paired zero (b ∷ v) ≡ true = rw (i, j) at h in
        let r = y g in
        ((λ c. (let f : Closes (suc d) (b ∷ (v ++ s)) = rw (i, j) at c in r.0 f)), (λ c. rw (i, j) (r.1 c)))
paired_over (suc k) d (a ∷ b ∷ v) s h = by (is_pair 40 42 a b) refl (is_pair 42 41 a b) refl (paired_over (suc (suc k)) d v s) (paired_over k d v s) (paired_over (suc k) d (b ∷ v) s)
  where
    by : (i : Bool) → is_pair 40 42 a b ≡ i → (j : Bool) → is_pair 42 41 a b ≡ j
        → (is_paired (suc (suc k)) v ≡ true → Both (Closes (suc (suc (suc (more k d)))) (v ++ s)) (Closes (suc d) s)) → (is_paired k v ≡ true → Both (Closes (suc (more k d)) (v ++ s)) (Closes (suc d) s))
        → (is_paired (suc k) (b ∷ v) ≡ true → Both (Closes (suc (suc (more k d))) (b ∷ (v ++ s))) (Closes (suc d) s))
        → Both (Closes (suc (suc (more k d))) (a ∷ b ∷ (v ++ s))) (Closes (suc d) s)
    by true i j jj x y z =
        let g : is_paired (suc (suc k)) v ≡ true = rw i at h in
        let r = x g in
        ((λ c. (let f : Closes (suc (suc (suc (more k d)))) (v ++ s) = rw i at c in r.0 f)), (λ c. rw i (r.1 c)))
    by false i true j x y z =
        let g : is_paired k v ≡ true = rw (i, j) at h in
        let r = y g in
        ((λ c. (let f : Closes (suc (more k d)) (v ++ s) = rw (i, j) at c in r.0 f)), (λ c. rw (i, j) (r.1 c)))
    by false i false j x y z =
        let g : is_paired (suc k) (b ∷ v) ≡ true = rw (i, j) at h in
        let r = z g in
        ((λ c. (let f : Closes (suc (suc (more k d))) (b ∷ (v ++ s)) = rw (i, j) at c in r.0 f)), (λ c. rw (i, j) (r.1 c)))

-- a dash is the second byte of no mark
no_dash : (a : ℕ) (x y : ℕ) → nat_eq 45 y ≡ false → is_pair x y a 45 ≡ false
no_dash a x y h = by (nat_eq a x)
  where
    by : (k : Bool) → (k && nat_eq 45 y) ≡ false
    by true = h
    by false = refl

never_none : (p r : Text) (b : ℕ) → Closes zero (p ++ b ∷ r) → ⊥
never_none [] r b c = c
never_none (a ∷ p) r b c = c

swapped_at : (d : ℕ) (p a u q : Text) → is_paired zero (45 ∷ a) ≡ true → is_paired zero (45 ∷ u) ≡ true → Closes (suc d) (p ++ 45 ∷ (a ++ q)) → Closes (suc d) (p ++ 45 ∷ (u ++ q))
swapped_at d [] a u q h k c = (paired_over zero d (45 ∷ u) q k).1 ((paired_over zero d (45 ∷ a) q h).0 c)
swapped_at d (x ∷ []) a u q h k c =
    let i = no_dash x 40 42 refl in
    let j = no_dash x 42 41 refl in
    let f : Closes (suc d) (45 ∷ (a ++ q)) = rw (i, j) at c in
    rw (i, j) ((paired_over zero d (45 ∷ u) q k).1 ((paired_over zero d (45 ∷ a) q h).0 f))
swapped_at zero (x ∷ y ∷ p) a u q h k c = by (is_pair 40 42 x y) refl (is_pair 42 41 x y) refl (swapped_at 1 p a u q h k) (swapped_at zero (y ∷ p) a u q h k)
  where
    by : (i : Bool) → is_pair 40 42 x y ≡ i → (j : Bool) → is_pair 42 41 x y ≡ j → (Closes 2 (p ++ 45 ∷ (a ++ q)) → Closes 2 (p ++ 45 ∷ (u ++ q)))
        → (Closes 1 (y ∷ (p ++ 45 ∷ (a ++ q))) → Closes 1 (y ∷ (p ++ 45 ∷ (u ++ q)))) → Closes 1 (x ∷ y ∷ (p ++ 45 ∷ (u ++ q)))
    by true i j jj deeper beside = (let f : Closes 2 (p ++ 45 ∷ (a ++ q)) = rw i at c in rw i (deeper f))
    by false i true j deeper beside = (let f : Closes 0 (p ++ 45 ∷ (a ++ q)) = rw (i, j) at c in absurd (never_none p (a ++ q) 45 f))
    by false i false j deeper beside = (let f : Closes 1 (y ∷ (p ++ 45 ∷ (a ++ q))) = rw (i, j) at c in rw (i, j) (beside f))
swapped_at (suc d) (x ∷ y ∷ p) a u q h k c =
    by (is_pair 40 42 x y) refl (is_pair 42 41 x y) refl (swapped_at (suc (suc d)) p a u q h k) (swapped_at d p a u q h k) (swapped_at (suc d) (y ∷ p) a u q h k)
  where
    by : (i : Bool) → is_pair 40 42 x y ≡ i → (j : Bool) → is_pair 42 41 x y ≡ j → (Closes (suc (suc (suc d))) (p ++ 45 ∷ (a ++ q)) → Closes (suc (suc (suc d))) (p ++ 45 ∷ (u ++ q)))
        → (Closes (suc d) (p ++ 45 ∷ (a ++ q)) → Closes (suc d) (p ++ 45 ∷ (u ++ q))) → (Closes (suc (suc d)) (y ∷ (p ++ 45 ∷ (a ++ q))) → Closes (suc (suc d)) (y ∷ (p ++ 45 ∷ (u ++ q))))
        → Closes (suc (suc d)) (x ∷ y ∷ (p ++ 45 ∷ (u ++ q)))
    by true i j jj deeper out beside = (let f : Closes (suc (suc (suc d))) (p ++ 45 ∷ (a ++ q)) = rw i at c in rw i (deeper f))
    by false i true j deeper out beside = (let f : Closes (suc d) (p ++ 45 ∷ (a ++ q)) = rw (i, j) at c in rw (i, j) (out f))
    by false i false j deeper out beside = (let f : Closes (suc (suc d)) (y ∷ (p ++ 45 ∷ (a ++ q))) = rw (i, j) at c in rw (i, j) (beside f))

pub stays_closed : (p a u q : Text) → is_paired zero (45 ∷ a) ≡ true → is_paired zero (45 ∷ u) ≡ true → Closes 1 (p ++ 45 ∷ (a ++ q)) → Closes 1 (p ++ 45 ∷ (u ++ q))
stays_closed p a u q h k c = swapped_at zero p a u q h k c
