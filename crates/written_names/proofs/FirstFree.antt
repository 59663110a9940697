-- The first name with a number that is free is the one with the first number that none taken has, wherever the search begins and whatever it knows.
use Rattle.std.proofs.Common.{◌≡◌, ℕ, nat_lt, ltb-true, ltb-false, zero, suc, ◌+◌, ◌-◌, ◌<◌, ◌≤◌, ◌^◌, length, List, Bool, true, false, ◌||◌, cond, refl, sym, ◌∙◌, ap, arith, true≢false}
use Rattle.tla_token.specs.Signs.{is_among}
use Rattle.tla_token.specs.Words.{is_reserved, is_own, is_standard}
use Rattle.tla_tree.specs.Tree.{Word}
use Rattle.pcal_tree.specs.Names.{is_taken, with_number, free_from, first_free}
use Rattle.pcal_tree.proofs.FreeNames.{free_is, free_untaken}
use Rattle.written_names.specs.Giving.{SameNames, TakenFrom}

-- so many names with numbers are taken at most, as names are
pub numbers_fit : (taken : List Word) (x : Word) (n d : ℕ) → n + d ≤ 2 ^ 64 → TakenFrom taken x n (n + d) → d ≤ length taken
numbers_fit taken x n d few h = by (nat_lt (length taken) d) refl
  where
    by : (b : Bool) → nat_lt (length taken) d ≡ b → d ≤ length taken
    by false l = let p = ltb-false (length taken) d l in omega arith
    by true l =
        let p = ltb-true (length taken) d l in
        let q = free_is (length taken) taken x n in
        absurd (true≢false (sym (h q.0 q.1 (omega (arith, q.2))) ∙ ap (is_among taken) (sym q.3) ∙ free_untaken (length taken) taken x n (omega arith) (omega arith)))

-- where the first number that is free is known
pub free_found : (k : ℕ) (taken : List Word) (x : Word) (n m : ℕ) → n ≤ m → m ≤ n + k → TakenFrom taken x n m → is_among taken (with_number x m) ≡ false
    → free_from k taken x n ≡ with_number x m
free_found zero taken x n m p q h e = ap (with_number x) (omega arith)
free_found (suc k) taken x n m p q h e = by (λ r. free_found k taken x (suc n) m r (omega arith) (λ j r s. h j (omega arith) s) e) (is_among taken (with_number x n)) refl
  where
    by : (suc n ≤ m → free_from k taken x (suc n) ≡ with_number x m) → (b : Bool) → is_among taken (with_number x n) ≡ b
        → cond b (free_from k taken x (suc n)) (with_number x n) ≡ with_number x m
    by ih true f = ih (past (λ s. true≢false (sym f ∙ ap (λ i. is_among taken (with_number x i)) s ∙ e)))
      where
        past : (n ≡ m → ⊥) → suc n ≤ m
        past ne = omega (arith, ne)
    by ih false f = ap (with_number x) (same (λ s. true≢false (sym (h n (omega arith) s) ∙ f)))
      where
        same : (n < m → ⊥) → n ≡ m
        same ne = omega (arith, ne)

same_taken : (extended a b : List Word) (x : Word) → SameNames a b → is_taken extended a x ≡ is_taken extended b x
same_taken extended a b x s = ap (λ c. is_reserved x || is_own x || is_standard extended x || c) (s x)

-- the first that is free, by names that are taken alike
pub numbered_free : (extended known taken : List Word) (x : Word) (m : ℕ) → SameNames known taken → is_taken extended known x ≡ true → 1 ≤ m → m < 2 ^ 64
    → TakenFrom known x 1 m → is_among known (with_number x m) ≡ false → with_number x m ≡ first_free extended taken x
numbered_free extended known taken x m s t p q h e =
    sym (free_found (length taken) taken x 1 m p (omega (arith, fits)) h' (sym (s (with_number x m)) ∙ e))
    ∙ ap (λ c. cond c (free_from (length taken) taken x 1) x) (sym t ∙ same_taken extended known taken x s)
  where
    h' : TakenFrom taken x 1 m
    h' j r l = sym (s (with_number x j)) ∙ h j r l

    fits : m - 1 ≤ length taken
    fits = numbers_fit taken x 1 (m - 1) (omega arith) (λ j r l. h' j r (omega arith))

pub plain_free : (extended known taken : List Word) (x : Word) → SameNames known taken → is_taken extended known x ≡ false → x ≡ first_free extended taken x
plain_free extended known taken x s t = ap (λ c. cond c (free_from (length taken) taken x 1) x) (sym t ∙ same_taken extended known taken x s)
