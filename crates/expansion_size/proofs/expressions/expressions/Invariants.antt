-- What is kept: what is left of the list still gives the whole.
use Rattle.std.proofs.Common.{◌≡◌, ℕ, drop}
use Rattle.tla_tree.specs.Pool.{trees_at}
use Rattle.macro_expand.specs.Measured.{of_trees}
use Rattle.expansion_size.specs.Budget.{budget}
use Rattle.expansion_size.specs.FramesIn.{put_by}
use Rattle.expansion_size.proofs.expressions.expressions.Given as goal

abbrev pub invariant-loop-i : goal.invariant-loop-i
invariant-loop-i l =
    (d : ℕ) → of_trees (budget (put_by l.pool l.frames)) (trees_at l.pool (drop l.i l.es)) d l.so_far ≡ of_trees (budget (put_by l.pool l.frames)) (trees_at l.pool l.es) d l.fn.left
