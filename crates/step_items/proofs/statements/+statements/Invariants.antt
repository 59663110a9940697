-- Why the calls that go through statements end, and what their loops keep.
use Rattle.std.proofs.Common.{◌+◌, ◌*◌, ◌≤◌, drop, length, Option}
use Rattle.tla_tree.specs.Tree.{Tree}
use Rattle.tla_tree.specs.Pool.{Keeps}
use Rattle.module_write.specs.InMemory.{past_items}
use Rattle.pcal_tree.specs.Algorithm.{Routine}
use Rattle.pcal_tree.specs.Program.{Program}
use Rattle.step_items.specs.Branching.{past_rows}
use Rattle.step_items.specs.Desks.{IsDesk}
use Rattle.step_items.specs.Writing.{named, to_write, Fits}
use Rattle.step_items.proofs.FarLaws.{Far}
use Rattle.step_items.proofs.RowLaws.{Opened}
use Rattle.step_items.proofs.WeightLaws.{weight, weights, branch_weights}
use Rattle.step_items.proofs.statements.+statements.Given as goal

abbrev pub decreases-list : goal.decreases-list
decreases-list l = 8 * weights l.stmts.now + 1

abbrev pub decreases-finished : goal.decreases-finished
decreases-finished l = 8 * weights l.stmts.now + 2

abbrev pub decreases-stmt : goal.decreases-stmt
decreases-stmt l = 8 * (weight l.one.now + weights l.rest.now)

abbrev pub decreases-open_sides : goal.decreases-open_sides
decreases-open_sides l = 8 * (weights l.then.now + weights l.otherwise.now) + 4

abbrev pub decreases-choice : goal.decreases-choice
decreases-choice l = 8 * (weights l.then.now + weights l.otherwise.now) + 5

abbrev pub decreases-turn_sides : goal.decreases-turn_sides
decreases-turn_sides l = 8 * (weights l.body.now + weights l.rest.now) + 4

abbrev pub decreases-turn : goal.decreases-turn
decreases-turn l = 8 * (weights l.body.now + weights l.rest.now) + 5

abbrev pub decreases-open_rows : goal.decreases-open_rows
decreases-open_rows l = 8 * branch_weights l.branches.now + 4

abbrev pub decreases-either : goal.decreases-either
decreases-either l = 8 * branch_weights l.branches.now + 5

abbrev pub decreases-with : goal.decreases-with
decreases-with l = 8 * weights l.body.now + 5

-- the items of the statements that were passed
abbrev pub invariant-list-loop-i : goal.invariant-list-loop-i
invariant-list-loop-i l =
    Keeps l.fn.pool l.pool × (past_items l.out.items ≤ length l.pool)
    × ((P : Program) (u : Routine) (x : Option Tree) → IsDesk l.fn.pool l.desk P u x → Fits P (to_write P u l.around.here.now l.around.exit.now (named P u l.fn.pool l.stmts)) (named P u l.fn.pool l.stmts)
    → Far P u x l.fn.pool l.pool l.fn.out.items l.out.items l.around.before.now l.assigned l.around.here.now l.here l.around.exit.now (named P u l.fn.pool l.stmts) (named P u l.fn.pool (drop l.i l.stmts)))

-- those of the branches that were passed
abbrev pub invariant-open_rows-loop-i : goal.invariant-open_rows-loop-i
invariant-open_rows-loop-i l =
    Keeps l.fn.pool l.pool × (past_rows l.rows.items ≤ length l.pool)
    × ((P : Program) (u : Routine) (x : Option Tree) → IsDesk l.fn.pool l.desk P u x → Opened P u x l.fn.pool l.pool l.inner.before.now l.inner.here.now l.inner.exit.now l.rows.items l.branches (drop l.i l.branches))
