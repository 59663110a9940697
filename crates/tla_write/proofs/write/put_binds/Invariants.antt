-- Why the loop of `put_binds` ends, and what it keeps: what is shown are the groups from the next one on.
use Rattle.std.proofs.Common.{◌≡◌, ◌≤◌, suc, List, length, drop}
use Rattle.tla_pool.specs.FormOf.{groups_of}
use Rattle.tla_tree.specs.Written.{Piece, Part, bind_pieces}
use Rattle.tla_write.specs.Writing.{shown}
use Rattle.tla_write.proofs.write.put_binds.Given as goal

abbrev pub decreases-loop-i : goal.decreases-loop-i
decreases-loop-i l = l.i

abbrev pub invariant-loop-i : goal.invariant-loop-i
invariant-loop-i l =
    (l.i ≤ length l.groups) × ((xs : List Part) → length xs ≡ suc (length l.groups) → (ps : List Piece) → shown xs l.plan.items ps ≡ bind_pieces (drop l.i (groups_of l.groups)) (drop l.i xs) (shown xs l.fn.plan.items ps))
