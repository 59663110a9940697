-- Past which numbers the statements after labels are, as labels are added.
use Rattle.std.proofs.Common.{◌≡◌, ℕ, zero, suc, ◌-◌, ◌≤◌, max, List, [], ◌∷◌, ◌++◌, length, take, drop, map, ap, ◌∙◌, arith}
use Rattle.tla_tree.specs.Nesting.{greatest}
use Rattle.pcal_tree.specs.declared.algorithm.Stmt.{Stmt}
use Rattle.pcal_tree.specs.InMemory.{past_stmt, past_statements}
use Rattle.pcal_tree.proofs.InMemoryEach.{past_one_more}
use Rattle.step_spots.specs.declared.walk.Spot as code
use Rattle.step_spots.specs.InMemory.{past_spot, past_spots}
use Rattle.step_spots.proofs.FirstSpots.{slice_rest}

past_drop : {A : Type 0} (f : A → ℕ) (xs : List A) (i : ℕ) → greatest (map f (drop i xs)) ≤ greatest (map f xs)
past_drop f xs zero = omega arith
past_drop f [] (suc i) = omega arith
past_drop f (x ∷ xs) (suc i) = (let h = past_drop f xs i in omega (arith, h))

-- the rest of a list
pub past_rest : (ss : List Stmt) (k : ℕ) → past_statements (take (length ss - k) (drop k ss)) ≤ past_statements ss
past_rest ss k = (let h = past_drop past_stmt ss k in omega (arith, h, ap past_statements (slice_rest ss k)))

-- one more label
pub past_added : (out new : List code.Spot) (s : code.Spot) → new ≡ out ++ s ∷ [] → past_spots new ≡ max (past_spots out) (past_spot s)
past_added out new s n = ap past_spots n ∙ past_one_more past_spot out s
