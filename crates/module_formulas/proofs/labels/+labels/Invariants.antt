-- Why the calls that go through labels end, and what their loops keep: what is left of a list still gives the whole.
use Rattle.std.proofs.Common.{◌≡◌, ◌+◌, ◌*◌, ◌++◌, List, drop}
use Rattle.tla_tree.specs.Tree.{Tree, words}
use Rattle.pcal_tree.specs.InMemory.{statements_at, branches_at}
use Rattle.pcal_tree.proofs.StatementHeights.{height, heights, branch_heights}
use Rattle.algorithm_limits.specs.LabelNames.{names_of_some}
use Rattle.module_formulas.proofs.LabelLists.{label_words}
use Rattle.module_formulas.proofs.labels.+labels.Given as goal

abbrev pub decreases-add_stmt : goal.decreases-add_stmt
decreases-add_stmt l = 3 * height l.stmt.now

abbrev pub decreases-add_statements : goal.decreases-add_statements
decreases-add_statements l = 3 * heights l.stmts.now + 1

abbrev pub decreases-add_branches : goal.decreases-add_branches
decreases-add_branches l = 3 * branch_heights l.list.now + 2

abbrev pub invariant-add_statements-loop-stmt : goal.invariant-add_statements-loop-stmt
invariant-add_statements-loop-stmt l =
    (ts : List Tree) → l.into ++ label_words (statements_at ts (drop l.stmt-index l.stmts)) ≡ l.fn.into ++ label_words (statements_at ts l.stmts)

abbrev pub invariant-add_branches-loop-i : goal.invariant-add_branches-loop-i
invariant-add_branches-loop-i l =
    (ts : List Tree) → l.into ++ words (names_of_some (branches_at ts (drop l.i l.list))) ≡ l.fn.into ++ words (names_of_some (branches_at ts l.list))
