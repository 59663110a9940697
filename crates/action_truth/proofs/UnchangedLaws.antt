-- Names with the same value before and after, one after another.
use Rattle.std.proofs.Common.{◌≡◌, ℕ, ◌+◌, ◌<◌, List, length, drop, get_or, Bool, true, false, ◌&&◌, sym, ap, ◌∙◌}
use Rattle.tla_tree.specs.Tree.{Word}
use Rattle.tla_value.specs.Definitions.{Valuation}
use Rattle.module_tree.specs.ActionTruth.{is_unchanged, are_unchanged}
use Rattle.action_truth.proofs.ListLaws.{rest_is}

module _ (s t : Valuation) (xs : List Word) (i : ℕ) (x : Word) (is : x ≡ get_or xs i x) (less : i < length xs) where
  first : are_unchanged s t (drop i xs) ≡ (is_unchanged (s x) (t x) && are_unchanged s t (drop (i + 1) xs))
  first = ap (are_unchanged s t) (rest_is xs i x is less)

  pub unchanged_next : is_unchanged (s x) (t x) ≡ true → are_unchanged s t (drop i xs) ≡ are_unchanged s t xs → are_unchanged s t (drop (i + 1) xs) ≡ are_unchanged s t xs
  unchanged_next h k = ap (λ (b : Bool). b && are_unchanged s t (drop (i + 1) xs)) (sym h) ∙ sym first ∙ k

  pub changed : is_unchanged (s x) (t x) ≡ false → are_unchanged s t (drop i xs) ≡ are_unchanged s t xs → are_unchanged s t xs ≡ false
  changed h k = sym k ∙ first ∙ ap (λ (b : Bool). b && are_unchanged s t (drop (i + 1) xs)) h
