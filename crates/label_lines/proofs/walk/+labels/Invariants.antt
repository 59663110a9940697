-- Why the calls that go through labels end, and what their loops keep: what is left of a list still gives the whole.
use Rattle.std.proofs.Common.{◌≡◌, ◌+◌, ◌*◌, ◌++◌, List, drop}
use Rattle.tla_tree.specs.Tree.{Tree}
use Rattle.pcal_tree.specs.InMemory.{statements_at, branches_at}
use Rattle.pcal_tree.proofs.StatementHeights.{heights, branch_heights}
use Rattle.written_names.specs.Units.{naming_of}
use Rattle.label_lines.specs.Found.{lines_seen, unit_lines, branch_lines}
use Rattle.label_lines.proofs.walk.+labels.Given as goal

abbrev pub decreases-stmt : goal.decreases-stmt
decreases-stmt l = 3 * heights l.stmts.now + 1

abbrev pub decreases-statements : goal.decreases-statements
decreases-statements l = 3 * heights l.stmts.now + 2

abbrev pub decreases-branches : goal.decreases-branches
decreases-branches l = 3 * branch_heights l.list.now + 3

abbrev pub invariant-statements-loop-i : goal.invariant-statements-loop-i
invariant-statements-loop-i l =
    (ts : List Tree) → lines_seen l.into.items ++ unit_lines (naming_of l.naming) l.unit (statements_at ts (drop l.i l.stmts)) ≡ lines_seen l.fn.into.items ++ unit_lines (naming_of l.naming) l.unit (statements_at ts l.stmts)

abbrev pub invariant-branches-loop-i : goal.invariant-branches-loop-i
invariant-branches-loop-i l =
    (ts : List Tree) → lines_seen l.into.items ++ branch_lines (naming_of l.naming) l.unit (branches_at ts (drop l.i l.list)) ≡ lines_seen l.fn.into.items ++ branch_lines (naming_of l.naming) l.unit (branches_at ts l.list)
