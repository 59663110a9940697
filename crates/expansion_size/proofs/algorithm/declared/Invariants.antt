-- What is kept: what is left of the list still gives the whole.
use Rattle.std.proofs.Common.{◌≡◌, ℕ, drop}
use Rattle.pcal_tree.specs.InMemory.{declarations_at}
use Rattle.macro_expand.specs.Measured.{of_declared}
use Rattle.expansion_size.specs.Budget.{budget}
use Rattle.expansion_size.specs.FramesIn.{put_by}
use Rattle.expansion_size.proofs.algorithm.declared.Given as goal

abbrev pub invariant-loop-one : goal.invariant-loop-one
invariant-loop-one l =
    (d : ℕ) → of_declared (budget (put_by l.pool l.frames)) (declarations_at l.pool (drop l.one-index l.list)) d l.so_far
    ≡ of_declared (budget (put_by l.pool l.frames)) (declarations_at l.pool l.list) d l.fn.left
