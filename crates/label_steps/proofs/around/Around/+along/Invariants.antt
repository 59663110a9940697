-- Why the calls that go through statements along all paths end, and what their loops keep: what is left of a list still gives the whole.
use Rattle.std.proofs.Common.{◌+◌, ◌*◌, drop}
use Rattle.pcal_tree.specs.InMemory.{statements_at, branches_at}
use Rattle.pcal_tree.proofs.StatementHeights.{height, heights, branch_heights}
use Rattle.label_steps.specs.WaysIn.{InMacro}
use Rattle.label_steps.proofs.WaysLaws.{WaysLeft, SomeLeft}
use Rattle.label_steps.proofs.around.Around.+along.Given as goal

abbrev pub decreases-along_stmt : goal.decreases-along_stmt
decreases-along_stmt l = 5 * height l.stmt.now

abbrev pub decreases-along : goal.decreases-along
decreases-along l = 5 * heights l.stmts.now + 1

abbrev pub decreases-along_rounds : goal.decreases-along_rounds
decreases-along_rounds l = 5 * heights l.body.now + 2

abbrev pub decreases-along_inside : goal.decreases-along_inside
decreases-along_inside l = 5 * heights l.body.now + 3

abbrev pub decreases-along_branches : goal.decreases-along_branches
decreases-along_branches l = 5 * branch_heights l.list.now + 4

abbrev pub invariant-along-loop-i : goal.invariant-along-loop-i
invariant-along-loop-i l =
    InMacro l.self (λ S. WaysLeft l.self.known S (statements_at l.pool l.stmts) l.fn.ways l.fn.found (statements_at l.pool (drop l.i l.stmts)) l.labelled l.ways l.found)

abbrev pub invariant-along_branches-loop-i : goal.invariant-along_branches-loop-i
invariant-along_branches-loop-i l =
    InMacro l.self (λ S. SomeLeft l.self.known S (branches_at l.pool l.list) l.ways l.fn.found (branches_at l.pool (drop l.i l.list)) l.ends l.found)
