-- Why the loop of `write_part` ends, and what it keeps: what is written, and what is still shown.
use Rattle.std.proofs.Common.{◌≡◌, ◌++◌, List}
use Rattle.tla_tree.specs.Written.{Piece, text_of, part}
use Rattle.tla_write.specs.Ahead.{all_ahead, all_weight}
use Rattle.tla_write.proofs.write.write_part.Given as goal

abbrev pub invariant-loop-next : goal.invariant-loop-next
invariant-loop-next l = (ps : List Piece) → l.into ++ text_of (all_ahead l.ahead.items ps) ≡ l.fn.into ++ text_of (part l.fn.e l.fn.operand ps)

abbrev pub decreases-loop-next : goal.decreases-loop-next
decreases-loop-next l = all_weight l.ahead.items
