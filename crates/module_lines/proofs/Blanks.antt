-- One blank more.
use Rattle.std.proofs.Common.{◌≡◌, ℕ, zero, suc, ◌+◌, List, [], ◌∷◌, ◌++◌, refl, ap, ◌∙◌, arith}
use Rattle.module_tree.specs.Layout.{blanks}

pub blanks_more : (k : ℕ) → blanks k ++ 32 ∷ [] ≡ blanks (k + 1)
blanks_more k = ends k ∙ ap blanks (add k)
  where
    ends : (k : ℕ) → blanks k ++ 32 ∷ [] ≡ blanks (suc k)
    ends zero = refl
    ends (suc k) = ap (λ (w : List ℕ). 32 ∷ w) (ends k)

    add : (k : ℕ) → suc k ≡ k + 1
    add k = omega arith
