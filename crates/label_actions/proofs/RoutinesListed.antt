-- Routines by their index in a list, and what holds of each routine of a list.
use Rattle.std.proofs.Common.{◌≡◌, ℕ, suc, zero, ◌+◌, ◌<◌, List, [], ◌∷◌, length, get_or, map, refl, inl, inr, arith}
use Rattle.std.specs.List.{AllByRecursion}
use Rattle.pcal_tree.specs.Algorithm.{Routine, numbered}
use Rattle.pcal_tree.specs.Processes.{OneOf}

-- the member of an index
pub has_numbered : {X A : Type 0} (r : ℕ → A → Routine) (to : X → A) (n : ℕ) (xs : List X) (i m : ℕ) (x : X) → x ≡ get_or xs i x → i < length xs → m ≡ n + i → OneOf (r m (to x)) (numbered r n (map to xs))
has_numbered r to n [] i m x is less e = absurd (let no : ⊥ = omega (arith, less) in no)
has_numbered r to n (y ∷ xs) zero m x is less e = inl (let k : m ≡ n = omega (arith, e) in λ j. r (k j) (to (is j)))
has_numbered r to n (y ∷ xs) (suc i) m x is less e = inr (has_numbered r to (suc n) xs i m x is (omega (arith, less)) (omega (arith, e)))

-- what holds of each that is there holds of all
pub every_of : {X : Type 0} (Q : X → Type 0) (xs : List X) → ((x : X) → OneOf x xs → Q x) → AllByRecursion Q xs
every_of Q [] h = tt
every_of Q (x ∷ xs) h = (h x (inl refl), every_of Q xs (λ y k. h y (inr k)))
