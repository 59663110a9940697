-- Why the calls that go through statements along all paths end, and what their loops keep: what is left of a list still gives the whole.
use Rattle.std.proofs.Common.{◌+◌, ◌*◌, List, drop}
use Rattle.pcal_tree.specs.InMemory.{statements_at, branches_at}
use Rattle.pcal_tree.specs.laws.MacroSummaries.{Summary}
use Rattle.pcal_tree.proofs.StatementHeights.{height, heights, branch_heights}
use Rattle.label_steps.specs.KnownIn.{AreMacros}
use Rattle.added_labels.specs.Sight.{effects_of}
use Rattle.step_offences.proofs.ListLaws.{WaysLeft, SomeLeft}
use Rattle.step_offences.proofs.steps.+steps.Given as goal

abbrev pub decreases-of_stmt : goal.decreases-of_stmt
decreases-of_stmt l = 5 * height l.stmt.now

abbrev pub decreases-of_list : goal.decreases-of_list
decreases-of_list l = 5 * heights l.stmts.now + 1

abbrev pub decreases-of_rounds : goal.decreases-of_rounds
decreases-of_rounds l = 5 * heights l.body.now + 2

abbrev pub decreases-of_inside : goal.decreases-of_inside
decreases-of_inside l = 5 * heights l.body.now + 3

abbrev pub decreases-of_branches : goal.decreases-of_branches
decreases-of_branches l = 5 * branch_heights l.list.now + 4

abbrev pub invariant-of_list-loop-i : goal.invariant-of_list-loop-i
invariant-of_list-loop-i l =
    (ms : List Summary) → AreMacros l.at.around.known ms
    → WaysLeft (effects_of l.at ms) l.fn.due (statements_at l.pool l.stmts) l.fn.ways l.fn.found (statements_at l.pool (drop l.i l.stmts)) l.labelled l.due l.ways l.found l.held

abbrev pub invariant-of_branches-loop-i : goal.invariant-of_branches-loop-i
invariant-of_branches-loop-i l =
    (ms : List Summary) → AreMacros l.at.around.known ms
    → SomeLeft (effects_of l.at ms) (branches_at l.pool l.list) l.fn.ways l.fn.found (branches_at l.pool (drop l.i l.list)) l.ends l.found l.held
