-- Why the calls that name labels end, and what their loops keep: what is left of a list still gives the whole.
use Rattle.std.proofs.Common.{◌+◌, ◌*◌, List, drop}
use Rattle.tla_tree.specs.Tree.{Tree, words}
use Rattle.pcal_tree.specs.InMemory.{statements_at, branches_at}
use Rattle.pcal_tree.proofs.StatementHeights.{height, heights, branch_heights}
use Rattle.algorithm_limits.specs.LabelNames.{label_names, names_of_some}
use Rattle.written_names.specs.Giving.{Known, Pairs, Gives}
use Rattle.written_names.proofs.units.+labels.Given as goal

abbrev pub decreases-name_stmt : goal.decreases-name_stmt
decreases-name_stmt l = 3 * height l.stmt.now

abbrev pub decreases-name_statements : goal.decreases-name_statements
decreases-name_statements l = 3 * heights l.stmts.now + 1

abbrev pub decreases-name_branches : goal.decreases-name_branches
decreases-name_branches l = 3 * branch_heights l.list.now + 2

abbrev pub invariant-name_statements-loop-stmt : goal.invariant-name_statements-loop-stmt
invariant-name_statements-loop-stmt l =
    (ts : List Tree) (k : Known) (qs : Pairs) → Gives l.giver k l.into qs (words (label_names (statements_at ts (drop l.stmt-index l.stmts)))) → Gives l.fn.giver k l.fn.into qs (words (label_names (statements_at ts l.stmts)))

abbrev pub invariant-name_branches-loop-i : goal.invariant-name_branches-loop-i
invariant-name_branches-loop-i l =
    (ts : List Tree) (k : Known) (qs : Pairs) → Gives l.giver k l.into qs (words (names_of_some (branches_at ts (drop l.i l.list)))) → Gives l.fn.giver k l.fn.into qs (words (names_of_some (branches_at ts l.list)))
