-- One blank more, and the pieces of a line as they are written and as they are printed.
use Rattle.std.proofs.Common.{◌≡◌, ℕ, zero, suc, ◌+◌, List, [], ◌∷◌, ◌++◌, refl, ap, ◌∙◌, arith}
use Rattle.pcal_tree.specs.Printed.{blanks}

pub blanks_more : (k : ℕ) → blanks k ++ 32 ∷ [] ≡ blanks (k + 1)
blanks_more k = ends k ∙ ap blanks (add k)
  where
    ends : (k : ℕ) → blanks k ++ 32 ∷ [] ≡ blanks (suc k)
    ends zero = refl
    ends (suc k) = ap (λ (w : List ℕ). 32 ∷ w) (ends k)

    add : (k : ℕ) → suc k ≡ k + 1
    add k = omega arith
