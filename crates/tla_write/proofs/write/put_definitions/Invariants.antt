-- Why the loop of `put_definitions` ends, and what it keeps: what is shown are the definitions from the next one on.
use Rattle.std.proofs.Common.{◌≡◌, ◌≤◌, suc, List, length, drop}
use Rattle.tla_tree.specs.Written.{Piece, Part, definition_pieces}
use Rattle.tla_write.specs.Writing.{shown}
use Rattle.tla_write.proofs.write.put_definitions.Given as goal

abbrev pub decreases-loop-i : goal.decreases-loop-i
decreases-loop-i l = l.i

abbrev pub invariant-loop-i : goal.invariant-loop-i
invariant-loop-i l =
    (l.i ≤ length l.names) × ((xs : List Part) → length xs ≡ suc (length l.names) → (ps : List Piece) → shown xs l.plan.items ps ≡ definition_pieces (drop l.i l.names) (drop l.i xs) (shown xs l.fn.plan.items ps))
