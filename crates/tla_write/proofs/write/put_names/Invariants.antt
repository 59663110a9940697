-- Why the loop of `put_names` ends, and what it keeps: what is shown are the names from the next one on.
use Rattle.std.proofs.Common.{◌≡◌, ◌≤◌, List, length, drop}
use Rattle.tla_tree.specs.Written.{Piece, Part, name_pieces}
use Rattle.tla_write.specs.Writing.{shown}
use Rattle.tla_write.proofs.write.put_names.Given as goal

abbrev pub decreases-loop-i : goal.decreases-loop-i
decreases-loop-i l = l.i

abbrev pub invariant-loop-i : goal.invariant-loop-i
invariant-loop-i l = (l.i ≤ length l.names) × ((xs : List Part) (ps : List Piece) → shown xs l.plan.items ps ≡ name_pieces (drop l.i l.names) (shown xs l.fn.plan.items ps))
