-- What a graft has made already: pairs of numbers, the second with the grafted tree of the first.
use Rattle.std.specs.Prelude.{◌≡◌, ℕ, ◌<◌, List, length, Some, nat_eq}
use Rattle.std.specs.List.{AllByRecursion}
use Rattle.std.specs.Map.{lookup}
use Rattle.tla_tree.specs.Tree.{Tree, Graft, graft}
use Rattle.tla_tree.specs.Pool.{at}

-- one number has the grafted tree of another
abbrev pub IsMade : Graft → List Tree → ℕ → ℕ → Type 0
IsMade g ts e made = (e < length ts) × (made < length ts) × (at ts made ≡ graft g (at ts e))

abbrev pub AreMade : Graft → List Tree → List (ℕ × ℕ) → Type 0
AreMade g ts ps = AllByRecursion (λ (p : ℕ × ℕ). IsMade g ts p.0 p.1) ps

-- something was made of the number
abbrev pub IsDone : List (ℕ × ℕ) → ℕ → Type 0
IsDone ps i = (made : ℕ) × (lookup (nat_eq i) ps ≡ Some made)

abbrev pub AreDone : List (ℕ × ℕ) → List ℕ → Type 0
AreDone ps is = AllByRecursion (IsDone ps) is
