-- Why the loop of `put_fields` ends, and what it keeps: what is shown are the fields from the next one on.
use Rattle.std.proofs.Common.{◌≡◌, ◌≤◌, List, length, drop}
use Rattle.tla_tree.specs.Written.{Piece, Part, spaced, field_pieces}
use Rattle.tla_write.specs.Writing.{fixed_token, shown}
use Rattle.tla_write.proofs.write.put_fields.Given as goal

abbrev pub decreases-loop-i : goal.decreases-loop-i
decreases-loop-i l = l.i

abbrev pub invariant-loop-i : goal.invariant-loop-i
invariant-loop-i l =
    (l.i ≤ length l.names) × ((xs : List Part) → length xs ≡ length l.names → (ps : List Piece) → shown xs l.plan.items ps ≡ field_pieces (spaced (fixed_token l.fn.sign)) (drop l.i l.names) (drop l.i xs) (shown xs l.fn.plan.items ps))
