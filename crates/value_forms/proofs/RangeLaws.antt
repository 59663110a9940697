-- Integers in a row, as members of a set.
use Rattle.std.proofs.Common.{◌≡◌, ℕ, zero, suc, ℤ, pos, negsuc, ◌+ℤ◌, ◌≤ℤ◌, ◌<ℤ◌, neg_ℤ, true, List, [], ◌∷◌, ◌++◌, refl, sym, ap, ◌∙◌, arith, add-one, ◌+◌}
use Rattle.std.specs.Prelude.{◌^◌}
use Rattle.std.proofs.lemmas.Int.{ints}
use Rattle.std.proofs.lemmas.Bool.{le-leb}
use Rattle.tla_value.specs.Value.{Value, int, no_values, and, values_in}
use Rattle.tla_value.specs.Order.{count, IsAscending}
use Rattle.tla_value.specs.Limits.{fits_int}
use Rattle.tla_value.specs.Sets.{integers}
use Rattle.tla_value.proofs.Canonical.{integers_canonical}
use Rattle.value_forms.specs.Parts.{AreParts, follow}
use Rattle.value_forms.proofs.Rows.{values_append}

fits_between : (z : ℤ) → neg_ℤ (pos (2 ^ 127)) ≤ℤ z → z <ℤ pos (2 ^ 127) → fits_int z ≡ true
fits_between (pos n) l h = le-leb (suc n) (2 ^ 127) (omega (arith, ints))
fits_between (negsuc n) l h = le-leb (suc n) (2 ^ 127) (omega (arith, ints))

pub integer_parts : (k : ℕ) (m : ℤ) → neg_ℤ (pos (2 ^ 127)) ≤ℤ m → (m +ℤ pos k) ≤ℤ pos (2 ^ 127) → AreParts (integers k m)
integer_parts zero m l h = tt
integer_parts (suc k) m l h =
    ((tt, fits_between m l (omega (arith, ints)), omega arith), integer_parts k (m +ℤ pos 1) (omega (arith, ints)) (omega (arith, ints)))

pub count_integers : (k : ℕ) (m : ℤ) → count (integers k m) ≡ k
count_integers zero m = refl
count_integers (suc k) m = ap suc (count_integers k (m +ℤ pos 1))

pub integers_ascend : (k : ℕ) (m : ℤ) → IsAscending (integers k m)
integers_ascend k m = (integers_canonical k m).0

one_more : (k : ℕ) (m : ℤ) → follow (integers k m) (and (int (m +ℤ pos k)) no_values) ≡ integers (suc k) m
one_more zero m = ap (λ z. and (int z) no_values) same
  where
    same : m +ℤ pos 0 ≡ m
    same = omega (arith, ints)
one_more (suc k) m = ap (λ z. and (int m) (follow (integers k (m +ℤ pos 1)) (and (int z) no_values))) same ∙ ap (and (int m)) (one_more k (m +ℤ pos 1))
  where
    same : m +ℤ pos (suc k) ≡ (m +ℤ pos 1) +ℤ pos k
    same = omega (arith, ints)

pub integers_push : (xs : List Value) (k : ℕ) (m z : ℤ) → z ≡ m +ℤ pos k → values_in xs ≡ integers k m → values_in (xs ++ int z ∷ []) ≡ integers (k + 1) m
integers_push xs k m z e h =
    values_append xs (int z ∷ []) ∙ (λ n. follow (h n) (and (int (e n)) no_values)) ∙ one_more k m ∙ ap (λ j. integers j m) (sym (add-one k))
