-- Why the calls that go through statements end, and what their loops keep: what is left of a list still gives all.
use Rattle.std.proofs.Common.{◌≡◌, ◌+◌, ◌*◌, ◌++◌, List, drop}
use Rattle.tla_tree.specs.Tree.{Tree}
use Rattle.pcal_tree.specs.InMemory.{statements_at, branches_at}
use Rattle.pcal_tree.specs.OffencesLabels.{Within, jump_offences, jump_offences_of_some}
use Rattle.pcal_tree.proofs.StatementHeights.{height, heights, branch_heights}
use Rattle.label_jumps.specs.Standing.{Stands}
use Rattle.label_rules.proofs.jumps.+jumps.Given as goal

abbrev pub decreases-of_stmt : goal.decreases-of_stmt
decreases-of_stmt l = 3 * height l.stmt.now

abbrev pub decreases-of_statements : goal.decreases-of_statements
decreases-of_statements l = 3 * heights l.stmts.now + 1

abbrev pub decreases-of_branches : goal.decreases-of_branches
decreases-of_branches l = 3 * branch_heights l.list.now + 2

abbrev pub invariant-of_statements-loop-stmt : goal.invariant-of_statements-loop-stmt
invariant-of_statements-loop-stmt l =
    (ts : List Tree) (w : Within) → Stands l.body l.in_with w
    → l.found.items ++ jump_offences w (statements_at ts (drop l.stmt-index l.stmts)) ≡ l.fn.found.items ++ jump_offences w (statements_at ts l.stmts)

abbrev pub invariant-of_branches-loop-i : goal.invariant-of_branches-loop-i
invariant-of_branches-loop-i l =
    (ts : List Tree) (w : Within) → Stands l.body l.in_with w
    → l.found.items ++ jump_offences_of_some w (branches_at ts (drop l.i l.list)) ≡ l.fn.found.items ++ jump_offences_of_some w (branches_at ts l.list)
