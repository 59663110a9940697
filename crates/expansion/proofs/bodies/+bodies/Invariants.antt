-- Why the calls that go through statements end, and what their loops keep: those that were passed are written.
use Rattle.std.proofs.Common.{◌+◌, ◌*◌, take}
use Rattle.tla_tree.specs.Pool.{Keeps}
use Rattle.pcal_tree.specs.Algorithm.{Statements}
use Rattle.pcal_tree.specs.Expand.{followed_by}
use Rattle.pcal_tree.proofs.StatementHeights.{height, heights, branch_heights}
use Rattle.expansion_size.proofs.MacroLaws.{work}
use Rattle.expansion.specs.Written.{written, Stand}
use Rattle.macro_arguments.proofs.Lists.{MadeOf}
use Rattle.expansion.proofs.BodyLaws.{past_branch, branch_at, branch_put}
use Rattle.expansion.proofs.bodies.+bodies.Given as goal

abbrev pub decreases-call : goal.decreases-call
decreases-call l = work l.macros.now + 1

abbrev pub decreases-inside : goal.decreases-inside
decreases-inside l = work l.macros.now + 5 * height l.stmt.now + 2

abbrev pub decreases-stmt : goal.decreases-stmt
decreases-stmt l = work l.macros.now + 5 * height l.stmt.now + 3

abbrev pub decreases-statements : goal.decreases-statements
decreases-statements l = work l.macros.now + 5 * heights l.stmts.now + 4

abbrev pub decreases-body : goal.decreases-body
decreases-body l = work l.macros.now + 5 * heights l.stmts.now + 5

abbrev pub decreases-branches : goal.decreases-branches
decreases-branches l = work l.macros.now + 5 * branch_heights l.list.now + 6

abbrev pub invariant-statements-loop-one : goal.invariant-statements-loop-one
invariant-statements-loop-one l =
    Keeps l.fn.pool l.pool × ((us : Statements) → Stand l.fn.pool l.fn.out.items us → Stand l.pool l.out.items (followed_by us (written l.fn.pool l.macros l.frames (take l.one-index l.stmts))))

abbrev pub invariant-branches-loop-i : goal.invariant-branches-loop-i
invariant-branches-loop-i l = Keeps l.fn.pool l.pool × MadeOf past_branch branch_at (branch_put l.macros l.frames l.fn.pool) l.pool l.rows.items (take l.i l.list)
