-- What is kept: what is left of the list still gives the whole.
use Rattle.std.proofs.Common.{◌≡◌, ℕ, drop}
use Rattle.pcal_tree.specs.InMemory.{binds_at}
use Rattle.macro_expand.specs.Measured.{of_binds}
use Rattle.expansion_size.specs.Budget.{budget}
use Rattle.expansion_size.specs.FramesIn.{put_by}
use Rattle.expansion_size.proofs.bodies.binds.Given as goal

abbrev pub invariant-loop-bind : goal.invariant-loop-bind
invariant-loop-bind l =
    (d : ℕ) → of_binds (budget (put_by l.pool l.frames)) (binds_at l.pool (drop l.bind-index l.list)) d l.so_far ≡ of_binds (budget (put_by l.pool l.frames)) (binds_at l.pool l.list) d l.fn.left
