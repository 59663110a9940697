-- Why the calls that go through statements end, and what their loops keep: what is left of a list still gives the whole.
use Rattle.std.proofs.Common.{◌≡◌, ◌+◌, ◌-◌, ◌*◌, drop}
use Rattle.pcal_tree.specs.InMemory.{statements_at, branches_at}
use Rattle.pcal_tree.proofs.StatementHeights.{height, heights, branch_heights}
use Rattle.expansion_size.specs.FramesIn.{after_all, after_some}
use Rattle.expansion_size.proofs.MacroLaws.{work}
use Rattle.expansion_size.proofs.bodies.+bodies.Given as goal

abbrev pub decreases-call : goal.decreases-call
decreases-call l = work l.macros.now + 1

abbrev pub decreases-simple : goal.decreases-simple
decreases-simple l = work l.macros.now + 2

abbrev pub decreases-stmt : goal.decreases-stmt
decreases-stmt l = work l.macros.now + 5 * height l.stmt.now + 3

abbrev pub decreases-statements : goal.decreases-statements
decreases-statements l = work l.macros.now + 5 * heights l.stmts.now + 4

abbrev pub decreases-inside : goal.decreases-inside
decreases-inside l = work l.macros.now + 5 * heights l.stmts.now + 5

abbrev pub decreases-branches : goal.decreases-branches
decreases-branches l = work l.macros.now + 5 * branch_heights l.list.now + 5

abbrev pub invariant-statements-loop-one : goal.invariant-statements-loop-one
invariant-statements-loop-one l = after_all l.pool l.macros l.frames (statements_at l.pool (drop l.one-index l.stmts)) l.depth l.so_far ≡ after_all l.pool l.macros l.frames (statements_at l.pool l.stmts) l.depth l.fn.left

abbrev pub invariant-branches-loop-i : goal.invariant-branches-loop-i
invariant-branches-loop-i l =
    after_some l.pool l.macros l.frames (branches_at l.pool (drop l.i l.list)) (l.depth - 1) l.so_far ≡ after_some l.pool l.macros l.frames (branches_at l.pool l.list) (l.depth - 1) l.fn.left
