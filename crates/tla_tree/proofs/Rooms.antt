-- Where a form opens: one form less may open, or it is refused.
use Rattle.std.proofs.Common.{◌≡◌, ℕ, suc, ◌+◌, ◌-◌, ◌≤◌, ◌<◌, Bool, true, false, nat_le, Some, refl, ap, ◌∙◌, arith, option_map}
use Rattle.tla_tree.specs.Spelling.{Phrase}
use Rattle.tla_tree.specs.Nesting.{nesting_in}
use Rattle.tla_tree.specs.Reader.{Limit, Readers, Reader, Room, room, less, within, opened, read_by, too_deep}

le_is : (m n : ℕ) (t : Bool) → m ≤ n → nat_le m n ≡ true
le_is m n t h = grind (arith, h)

lt_is : (m n : ℕ) → n < m → nat_le m n ≡ false
lt_is m n h = grind (arith, h)

-- room for so many, and one more, is room for one less
module _ (linked : Bool) (f : Limit → Readers) (k b : ℕ) (h : suc k ≤ b) where
  same_le : (j : ℕ) → nat_le (suc k + j) b ≡ nat_le j (b - suc k)
  same_le j = grind (arith, h)

  same_less : (j : ℕ) → less (nat_le (suc k + j) b) b (suc k + j) ≡ less (nat_le j (b - suc k)) (b - suc k) j
  same_less j = rw (same_le j) (by (nat_le j (b - suc k)))
    where
      by : (t : Bool) → less t b (suc k + j) ≡ less t (b - suc k) j
      by true = (let e : b - (suc k + j) ≡ b - suc k - j = omega arith in ap (λ (n : ℕ). Some (Some n)) e)
      by false = refl

  same_fits : (j : ℕ) (a : Phrase) → nat_le (nesting_in linked a + (suc k + j)) b ≡ nat_le (nesting_in linked a + j) (b - suc k)
  same_fits j a = grind (arith, h)

  pub within_is : within k (room linked f (Some b)) ≡ room linked f (Some (b - suc k))
  within_is = λ i. record { at = λ j. option_map f (same_less j i); fits = λ j a. same_fits j a i; linked = linked }

  pub opened_is : {A : Type 0} (g : Room → Readers → Reader A) → opened (room linked f (Some b)) k g ≡ g (room linked f (Some (b - suc k))) (f (Some (b - suc k)))
  opened_is {A} g =
      ap (λ (t : Bool). read_by (option_map f (less t b (suc k))) (g (within k (room linked f (Some b))))) (le_is (suc k) b true h)
      ∙ ap (λ (m : Room). g m (f (Some (b - suc k)))) within_is

pub opened_not : {A : Type 0} (linked : Bool) (f : Limit → Readers) (k b : ℕ) (g : Room → Readers → Reader A) → b ≤ k → opened (room linked f (Some b)) k g ≡ too_deep
opened_not linked f k b g h = ap (λ (t : Bool). read_by (option_map f (less t b (suc k))) (g (within k (room linked f (Some b))))) (lt_is (suc k) b (omega (arith, h)))
