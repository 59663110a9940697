-- Why the loop of `put_pairs` ends, and what it keeps: what is shown are the arms from the next one on.
use Rattle.std.proofs.Common.{◌≡◌, ◌≤◌, List, length, drop}
use Rattle.tla_tree.specs.Written.{Piece, Part, arm_pieces}
use Rattle.tla_write.specs.Writing.{shown, IsTwice}
use Rattle.tla_write.proofs.write.put_pairs.Given as goal

abbrev pub decreases-loop-i : goal.decreases-loop-i
decreases-loop-i l = l.i

abbrev pub invariant-loop-i : goal.invariant-loop-i
invariant-loop-i l =
    (l.i ≤ l.fn.n) × IsTwice l.i
    × ((xs : List Part) → length xs ≡ l.fn.n → (ps end : List Piece) → shown xs l.fn.plan.items ps ≡ arm_pieces l.fn.other (drop l.fn.from xs) end → shown xs l.plan.items ps ≡ arm_pieces l.fn.other (drop l.i xs) end)
