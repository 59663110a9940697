-- Why the loop of `put_slots` ends, and what it keeps: what is shown are the settings from the next one on.
use Rattle.std.proofs.Common.{◌≡◌, ◌≤◌, suc, List, length, drop, take}
use Rattle.tla_pool.specs.FormOf.{slots_of}
use Rattle.tla_tree.specs.Shapes.{settings}
use Rattle.tla_tree.specs.Written.{Piece, Part, slot_pieces}
use Rattle.tla_write.specs.Writing.{shown}
use Rattle.tla_write.proofs.write.put_slots.Given as goal

abbrev pub decreases-loop-i : goal.decreases-loop-i
decreases-loop-i l = l.i

abbrev pub invariant-loop-i : goal.invariant-loop-i
invariant-loop-i l =
    (l.i ≤ length l.slots) × (l.next ≡ suc (settings (take l.i (slots_of l.slots))))
    × ((xs : List Part) → length xs ≡ l.fn.n → (ps : List Piece) → shown xs l.plan.items ps ≡ slot_pieces (drop l.i (slots_of l.slots)) (drop l.next xs) (shown xs l.fn.plan.items ps))
