-- Why the calls that go through statements end, and what their loops keep: of all steps some have their actions, and the rest are left.
use Rattle.std.proofs.Common.{◌+◌, ◌*◌, drop}
use Rattle.pcal_tree.specs.InMemory.{statements_at, branches_at}
use Rattle.pcal_tree.proofs.StatementHeights.{heights, branch_heights}
use Rattle.step_forms.specs.Steps.{steps, steps_some}
use Rattle.label_actions.specs.Fitting.{here_at}
use Rattle.label_actions.proofs.StepsAdded.{SoFar}
use Rattle.label_actions.proofs.walk.+actions.Given as goal

abbrev pub decreases-stmt : goal.decreases-stmt
decreases-stmt l = 3 * heights l.stmts.now + 1

abbrev pub decreases-statements : goal.decreases-statements
decreases-statements l = 3 * heights l.stmts.now + 2

abbrev pub decreases-branches : goal.decreases-branches
decreases-branches l = 3 * branch_heights l.list.now + 3

abbrev pub invariant-statements-loop-i : goal.invariant-statements-loop-i
invariant-statements-loop-i l =
    SoFar l.fn.pool l.pool l.desk l.taker l.fn.out.items l.out.items (steps l.here (statements_at l.fn.pool l.stmts) l.exit) (steps (here_at l.fn.pool l.here l.exit l.stmts l.i) (statements_at l.fn.pool (drop l.i l.stmts)) l.exit)

abbrev pub invariant-branches-loop-i : goal.invariant-branches-loop-i
invariant-branches-loop-i l =
    SoFar l.fn.pool l.pool l.desk l.taker l.fn.out.items l.out.items (steps_some (branches_at l.fn.pool l.list) l.exit) (steps_some (branches_at l.fn.pool (drop l.i l.list)) l.exit)
