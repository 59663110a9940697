-- Why the calls that go through statements end, and what their loops keep: what is left of a list still gives the whole.
use Rattle.std.proofs.Common.{◌+◌, ◌*◌, drop}
use Rattle.pcal_tree.specs.InMemory.{statements_at, branches_at}
use Rattle.pcal_tree.proofs.StatementHeights.{height, heights, branch_heights}
use Rattle.read_rules.specs.BodyNames.{names_in, names_in_some}
use Rattle.read_rules.specs.declared.used.Used.{Used}
use Rattle.read_rules.specs.Using.{Adds}
use Rattle.read_rules.proofs.used.Used.+bodies.Given as goal

abbrev pub decreases-stmt : goal.decreases-stmt
decreases-stmt l = 3 * height l.stmt.now

abbrev pub decreases-body : goal.decreases-body
decreases-body l = 3 * heights l.stmts.now + 1

abbrev pub decreases-branches : goal.decreases-branches
decreases-branches l = 3 * branch_heights l.list.now + 2

abbrev pub invariant-body-loop-stmt : goal.invariant-body-loop-stmt
invariant-body-loop-stmt l = (k : Used) → Adds l.self k (names_in (statements_at l.pool (drop l.stmt-index l.stmts))) → Adds l.fn.self k (names_in (statements_at l.pool l.stmts))

abbrev pub invariant-branches-loop-i : goal.invariant-branches-loop-i
invariant-branches-loop-i l = (k : Used) → Adds l.self k (names_in_some (branches_at l.pool (drop l.i l.list))) → Adds l.fn.self k (names_in_some (branches_at l.pool l.list))
