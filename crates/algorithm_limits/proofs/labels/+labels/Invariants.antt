-- Why the calls that count labels end, and what their loops keep.
use Rattle.std.proofs.Common.{◌≡◌, ◌+◌, ◌*◌, List, drop}
use Rattle.tla_tree.specs.Tree.{Tree}
use Rattle.pcal_tree.specs.InMemory.{statements_at, branches_at}
use Rattle.algorithm_limits.specs.Counting.{counted}
use Rattle.algorithm_limits.specs.LabelNames.{label_names, names_of_some}
use Rattle.pcal_tree.proofs.StatementHeights.{height, heights, branch_heights}
use Rattle.algorithm_limits.proofs.labels.+labels.Given as goal

abbrev pub decreases-with_stmt : goal.decreases-with_stmt
decreases-with_stmt l = 3 * height l.stmt.now

abbrev pub decreases-with_statements : goal.decreases-with_statements
decreases-with_statements l = 3 * heights l.stmts.now + 1

abbrev pub decreases-with_branches : goal.decreases-with_branches
decreases-with_branches l = 3 * branch_heights l.list.now + 2

abbrev pub invariant-with_statements-loop-stmt : goal.invariant-with_statements-loop-stmt
invariant-with_statements-loop-stmt l =
    (ts : List Tree) → counted l.so_far (label_names (statements_at ts (drop l.stmt-index l.stmts))) ≡ counted l.fn.count (label_names (statements_at ts l.stmts))

abbrev pub invariant-with_branches-loop-i : goal.invariant-with_branches-loop-i
invariant-with_branches-loop-i l =
    (ts : List Tree) → counted l.so_far (names_of_some (branches_at ts (drop l.i l.list))) ≡ counted l.fn.count (names_of_some (branches_at ts l.list))
