-- Why the calls that go through statements end, and what their loops keep: what is left of a list still gives the whole.
use Rattle.std.proofs.Common.{◌+◌, ◌*◌, List, drop}
use Rattle.tla_tree.specs.Tree.{Tree}
use Rattle.pcal_tree.specs.InMemory.{statements_at, branches_at}
use Rattle.pcal_tree.specs.OffencesCounts.{calls_of, calls_of_some}
use Rattle.pcal_tree.proofs.StatementHeights.{height, heights, branch_heights}
use Rattle.algorithm_limits.specs.Numbers.{Numbers}
use Rattle.read_rules.specs.Calls.{AddsCalls}
use Rattle.read_rules.proofs.calls.+calls.Given as goal

abbrev pub decreases-add_stmt : goal.decreases-add_stmt
decreases-add_stmt l = 3 * height l.stmt.now

abbrev pub decreases-add_calls : goal.decreases-add_calls
decreases-add_calls l = 3 * heights l.stmts.now + 1

abbrev pub decreases-add_branches : goal.decreases-add_branches
decreases-add_branches l = 3 * branch_heights l.list.now + 2

abbrev pub invariant-add_calls-loop-stmt : goal.invariant-add_calls-loop-stmt
invariant-add_calls-loop-stmt l = (ts : List Tree) (k : Numbers) → AddsCalls l.called k (calls_of (statements_at ts (drop l.stmt-index l.stmts))) → AddsCalls l.fn.called k (calls_of (statements_at ts l.stmts))

abbrev pub invariant-add_branches-loop-i : goal.invariant-add_branches-loop-i
invariant-add_branches-loop-i l = (ts : List Tree) (k : Numbers) → AddsCalls l.called k (calls_of_some (branches_at ts (drop l.i l.list))) → AddsCalls l.fn.called k (calls_of_some (branches_at ts l.list))
