-- Why the loop of `put_listed` ends, and what it keeps: what is shown is the list from the next part on.
use Rattle.std.proofs.Common.{◌≡◌, ◌≤◌, List, length, drop}
use Rattle.tla_tree.specs.Written.{Piece, Part, listed}
use Rattle.tla_write.specs.Writing.{shown}
use Rattle.tla_write.proofs.write.put_listed.Given as goal

abbrev pub decreases-loop-i : goal.decreases-loop-i
decreases-loop-i l = l.i

abbrev pub invariant-loop-i : goal.invariant-loop-i
invariant-loop-i l = (l.i ≤ l.fn.n) × ((xs : List Part) → length xs ≡ l.fn.n → (ps : List Piece) → shown xs l.plan.items ps ≡ listed (drop l.i xs) (shown xs l.fn.plan.items ps))
