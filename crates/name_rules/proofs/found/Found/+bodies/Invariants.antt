-- Why the calls that go through statements end, and what their loops keep: what is left of a list still gives the whole.
use Rattle.std.proofs.Common.{◌+◌, ◌*◌, List, drop}
use Rattle.pcal_tree.specs.Algorithm.{Procedure}
use Rattle.pcal_tree.specs.InMemory.{statements_at, branches_at}
use Rattle.pcal_tree.specs.OffencesNames.{Calls, in_body, in_branches}
use Rattle.pcal_tree.proofs.StatementHeights.{height, heights, branch_heights}
use Rattle.name_rules.specs.declared.found.Found.{Found}
use Rattle.name_rules.specs.Finding.{Tells}
use Rattle.name_rules.specs.Calling.{Means}
use Rattle.name_rules.proofs.found.Found.+bodies.Given as goal

abbrev pub decreases-stmt : goal.decreases-stmt
decreases-stmt l = 3 * height l.stmt.now

abbrev pub decreases-body : goal.decreases-body
decreases-body l = 3 * heights l.stmts.now + 1

abbrev pub decreases-branches : goal.decreases-branches
decreases-branches l = 3 * branch_heights l.list.now + 2

abbrev pub invariant-body-loop-stmt : goal.invariant-body-loop-stmt
invariant-body-loop-stmt l = (C : Calls) (ps : List Procedure) → Means l.callees C ps → (k : Found) → Tells l.self k (in_body C ps (statements_at l.pool (drop l.stmt-index l.stmts))) → Tells l.fn.self k (in_body C ps (statements_at l.pool l.stmts))

abbrev pub invariant-branches-loop-i : goal.invariant-branches-loop-i
invariant-branches-loop-i l = (C : Calls) (ps : List Procedure) → Means l.callees C ps → (k : Found) → Tells l.self k (in_branches C ps (branches_at l.pool (drop l.i l.list))) → Tells l.fn.self k (in_branches C ps (branches_at l.pool l.list))
