-- Why the calls that look for macro calls end, and what their loops keep.
use Rattle.std.proofs.Common.{◌≡◌, ◌+◌, ◌*◌, max, List, drop}
use Rattle.tla_tree.specs.Tree.{Tree}
use Rattle.pcal_tree.specs.InMemory.{statements_at, branches_at}
use Rattle.pcal_tree.specs.OffencesCounts.{calls_of, calls_of_some}
use Rattle.algorithm_limits.specs.ChainsIn.{longest_in}
use Rattle.pcal_tree.proofs.StatementHeights.{height, heights, branch_heights}
use Rattle.algorithm_limits.proofs.chains.+calls.Given as goal

abbrev pub decreases-longest_in_stmt : goal.decreases-longest_in_stmt
decreases-longest_in_stmt l = 3 * height l.stmt.now

abbrev pub decreases-longest_in_statements : goal.decreases-longest_in_statements
decreases-longest_in_statements l = 3 * heights l.stmts.now + 1

abbrev pub decreases-longest_in_branches : goal.decreases-longest_in_branches
decreases-longest_in_branches l = 3 * branch_heights l.list.now + 2

abbrev pub invariant-longest_in_statements-loop-stmt : goal.invariant-longest_in_statements-loop-stmt
invariant-longest_in_statements-loop-stmt l =
    (ts : List Tree) → max l.longest (longest_in l.chains (calls_of (statements_at ts (drop l.stmt-index l.stmts)))) ≡ max l.fn.so_far (longest_in l.chains (calls_of (statements_at ts l.stmts)))

abbrev pub invariant-longest_in_branches-loop-i : goal.invariant-longest_in_branches-loop-i
invariant-longest_in_branches-loop-i l =
    (ts : List Tree) → max l.longest (longest_in l.chains (calls_of_some (branches_at ts (drop l.i l.list)))) ≡ max l.fn.so_far (longest_in l.chains (calls_of_some (branches_at ts l.list)))
