-- Numbers in sets, by the bits of words.
use Rattle.std.proofs.Common.{◌≡◌, ℕ, zero, suc, ◌+◌, ◌-◌, ◌*◌, ◌/◌, ◌%◌, ◌^◌, ◌<◌, ◌≤◌, Bool, true, false, ◌||◌, ◌&&◌, ◌==◌, List, length, get_or, set, min, max, refl, sym, ap, ◌∙◌, inl, inr, arith, w64, eq-eqb, ne_eqb, lt-ltb, le-ltb, replicate, true≢false}
use Rattle.std.specs.Prelude.{bit_and, bit_or, not, nat_lt}
use Rattle.std.specs.Int.{bit_at, bit_not, trailing_zeros}
use Rattle.std.proofs.lemmas.Bool.{cases_lt, cases_eq}
use Rattle.std.proofs.lemmas.List.{get_or_past, get_or-set_other, get_or-replicate}
use Rattle.std.proofs.lemmas.Grind.{get_or-set_at}
use Rattle.std.proofs.lemmas.Nat.Bits.{bit_at_or, bit_at_and, bit_at_not, bit_at-zero, bit_at-lt, bit_at_set_same, bit_at_set_other, bit_at-trailing_zeros, bit_at_ones}

abbrev pub set_in : List ℕ → ℕ → Bool
set_in ws i = bit_at (get_or ws (i / 64) 0) (i % 64) == 1

greater : (x y : ℕ) → x < 2 → y < 2 → (max x y == 1) ≡ ((x == 1) || (y == 1))
greater zero zero h k = refl
greater zero (suc zero) h k = refl
greater (suc zero) zero h k = refl
greater (suc zero) (suc zero) h k = refl
greater (suc (suc x)) y h k = absurd (let n : ⊥ = omega (arith, h) in n)
greater x (suc (suc y)) h k = absurd (let n : ⊥ = omega (arith, k) in n)

less : (x y : ℕ) → x < 2 → y < 2 → (min x (1 - y) == 1) ≡ ((x == 1) && not (y == 1))
less zero zero h k = refl
less zero (suc zero) h k = refl
less (suc zero) zero h k = refl
less (suc zero) (suc zero) h k = refl
less (suc (suc x)) y h k = absurd (let n : ⊥ = omega (arith, h) in n)
less x (suc (suc y)) h k = absurd (let n : ⊥ = omega (arith, k) in n)

-- past the words there is no bit
pub past_words : (ws : List ℕ) (i : ℕ) → length ws ≤ i / 64 → set_in ws i ≡ false
past_words ws i h = ap (λ (w : ℕ). bit_at w (i % 64) == 1) (get_or_past ws (i / 64) 0 h) ∙ ap (λ (b : ℕ). b == 1) (bit_at-zero (i % 64))

module _ (a b r : List ℕ) (la : length a ≡ 17) (lb : length b ≡ 17) (lr : length r ≡ 17) (i : ℕ) where
  pub in_union : ((j : ℕ) → j < 17 → get_or r j 0 ≡ bit_or (get_or a j 0) (get_or b j 0)) → set_in r i ≡ (set_in a i || set_in b i)
  in_union each = elim (cases_lt (i / 64) 17) [
    | inl h ↦
        ap (λ (w : ℕ). bit_at w (i % 64) == 1) (each (i / 64) h) ∙ ap (λ (n : ℕ). n == 1) (bit_at_or (get_or a (i / 64) 0) (get_or b (i / 64) 0) (i % 64))
        ∙ greater (bit_at (get_or a (i / 64) 0) (i % 64)) (bit_at (get_or b (i / 64) 0) (i % 64)) (bit_at-lt _ (i % 64)) (bit_at-lt _ (i % 64))
    | inr h ↦
        past_words r i (omega (arith, h, lr)) ∙ sym (λ j. past_words a i (omega (arith, h, la)) j || past_words b i (omega (arith, h, lb)) j)
  ]

  pub in_left : ((j : ℕ) → j < 17 → get_or b j 0 < 2 ^ 64) → ((j : ℕ) → j < 17 → get_or r j 0 ≡ bit_and (get_or a j 0) (bit_not w64 (get_or b j 0)))
      → set_in r i ≡ (set_in a i && not (set_in b i))
  in_left fits each = elim (cases_lt (i / 64) 17) [
    | inl h ↦
        ap (λ (w : ℕ). bit_at w (i % 64) == 1) (each (i / 64) h)
        ∙ ap (λ (n : ℕ). n == 1) (bit_at_and (get_or a (i / 64) 0) (bit_not w64 (get_or b (i / 64) 0)) (i % 64)
        ∙ ap (min (bit_at (get_or a (i / 64) 0) (i % 64))) (bit_at_not w64 (get_or b (i / 64) 0) (i % 64) (fits (i / 64) h) (omega arith)))
        ∙ less (bit_at (get_or a (i / 64) 0) (i % 64)) (bit_at (get_or b (i / 64) 0) (i % 64)) (bit_at-lt _ (i % 64)) (bit_at-lt _ (i % 64))
    | inr h ↦
        past_words r i (omega (arith, h, lr)) ∙ sym (λ j. past_words a i (omega (arith, h, la)) j && not (past_words b i (omega (arith, h, lb)) j))
  ]

-- ---- one more number

pub in_added : (ws : List ℕ) → length ws ≡ 17 → (n : ℕ) → n < 1088 → (i : ℕ) → set_in (set ws (n / 64) (bit_or (get_or ws (n / 64) 0) (1 * 2 ^ (n % 64) % 2 ^ 64))) i ≡ (set_in ws i || ((i == n) && nat_lt i 1088))
in_added ws l n h i = elim (cases_eq i n) [
  | inl e ↦
      ap (λ (w : ℕ). bit_at w (i % 64) == 1) (get_or-set_at ws (n / 64) (i / 64) _ 0 (ap (λ (m : ℕ). m / 64) e) (omega (arith, h, l)))
      ∙ ap (λ (m : ℕ). bit_at (bit_or (get_or ws (n / 64) 0) (1 * 2 ^ (n % 64) % 2 ^ 64)) (m % 64) == 1) e
      ∙ ap (λ (b : ℕ). b == 1) (bit_at_set_same w64 (get_or ws (n / 64) 0) (n % 64) (omega arith))
      ∙ sym (either_true (set_in ws i)) ∙ ap (λ (b : Bool). set_in ws i || b) (sym (λ j. eq-eqb i n e j && lt-ltb i 1088 (omega (arith, e, h)) j))
  | inr d ↦ other d ∙ sym (ap (λ (b : Bool). set_in ws i || (b && nat_lt i 1088)) (ne_eqb i n d) ∙ or_none (set_in ws i))
]
  where
    either_true : (b : Bool) → (b || true) ≡ true
    either_true true = refl
    either_true false = refl

    or_none : (b : Bool) → (b || false) ≡ b
    or_none true = refl
    or_none false = refl

    other : (i ≡ n → ⊥) → set_in (set ws (n / 64) (bit_or (get_or ws (n / 64) 0) (1 * 2 ^ (n % 64) % 2 ^ 64))) i ≡ set_in ws i
    other d = elim (cases_eq (i / 64) (n / 64)) [
      | inl e ↦
          ap (λ (w : ℕ). bit_at w (i % 64) == 1) (get_or-set_at ws (n / 64) (i / 64) _ 0 e (omega (arith, h, l)))
          ∙ ap (λ (b : ℕ). b == 1) (bit_at_set_other w64 (get_or ws (n / 64) 0) (n % 64) (omega arith) (i % 64) (λ k. d (omega (arith, e, k))))
          ∙ ap (λ (m : ℕ). bit_at (get_or ws m 0) (i % 64) == 1) (sym e)
      | inr k ↦ ap (λ (w : ℕ). bit_at w (i % 64) == 1) (get_or-set_other ws (n / 64) (i / 64) _ 0 k)
    ]

-- ---- no number

pub in_none : (ws : List ℕ) → ((j : ℕ) → j < 17 → get_or ws j 0 ≡ 0) → length ws ≡ 17 → (i : ℕ) → set_in ws i ≡ false
in_none ws h l i = elim (cases_lt (i / 64) 17) [
  | inl k ↦ ap (λ (w : ℕ). bit_at w (i % 64) == 1) (h (i / 64) k) ∙ ap (λ (b : ℕ). b == 1) (bit_at-zero (i % 64))
  | inr k ↦ past_words ws i (omega (arith, k, l))
]

pub in_all : (ws : List ℕ) → ws ≡ replicate 17 (2 ^ 64 - 1) → (i : ℕ) → set_in ws i ≡ nat_lt i 1088
in_all ws e i = elim (cases_lt (i / 64) 17) [
  | inl k ↦
      ap (λ (w : ℕ). bit_at w (i % 64) == 1) (ap (λ (us : List ℕ). get_or us (i / 64) 0) e ∙ get_or-replicate 17 (i / 64) (2 ^ 64 - 1) 0 k)
      ∙ ap (λ (b : ℕ). b == 1) (bit_at_ones 64 (i % 64) (omega arith)) ∙ sym (lt-ltb i 1088 (omega (arith, k)))
  | inr k ↦ past_words ws i (omega (arith, k, ap length e)) ∙ sym (le-ltb i 1088 (omega (arith, k)))
]

-- a word that isn't 0 has a bit
pub in_some : (ws : List ℕ) (k : ℕ) → 0 < get_or ws k 0 → get_or ws k 0 < 2 ^ 64 → ((i : ℕ) → set_in ws i ≡ false) → ⊥
in_some ws k h f none =
    let lowest = bit_at-trailing_zeros w64 (get_or ws k 0) h f in
    let t = trailing_zeros w64 (get_or ws k 0) in
    let word : (k * 64 + t) / 64 ≡ k = omega (arith, lowest.0) in
    let bit : (k * 64 + t) % 64 ≡ t = omega (arith, lowest.0) in
    true≢false (sym (ap (λ (b : ℕ). b == 1) lowest.1) ∙ sym (λ j. bit_at (get_or ws (word j) 0) (bit j) == 1) ∙ none (k * 64 + t))
