-- Why the calls that go through statements end, and what their loops keep: what is left of a list still gives the whole.
use Rattle.std.proofs.Common.{◌≡◌, ◌+◌, ◌*◌, ◌++◌, List, drop}
use Rattle.tla_tree.specs.Tree.{Tree}
use Rattle.pcal_tree.specs.InMemory.{statements_at, branches_at}
use Rattle.pcal_tree.proofs.StatementHeights.{heights, branch_heights}
use Rattle.written_names.specs.Units.{naming_of}
use Rattle.marked_labels.specs.Wanted.{labels_of}
use Rattle.marked_labels.proofs.LabelLaws.{labels_some}
use Rattle.marked_labels.proofs.labels.+labels.Given as goal

abbrev pub decreases-stmt : goal.decreases-stmt
decreases-stmt l = 3 * heights l.stmts.now + 1

abbrev pub decreases-statements : goal.decreases-statements
decreases-statements l = 3 * heights l.stmts.now + 2

abbrev pub decreases-branches : goal.decreases-branches
decreases-branches l = 3 * branch_heights l.list.now + 3

abbrev pub invariant-statements-loop-i : goal.invariant-statements-loop-i
invariant-statements-loop-i l =
    (ts : List Tree) → l.into ++ labels_of (naming_of l.draft.naming.now) l.unit l.wanted (statements_at ts (drop l.i l.stmts)) ≡ l.fn.into ++ labels_of (naming_of l.draft.naming.now) l.unit l.wanted (statements_at ts l.stmts)

abbrev pub invariant-branches-loop-i : goal.invariant-branches-loop-i
invariant-branches-loop-i l =
    (ts : List Tree) → l.into ++ labels_some (naming_of l.draft.naming.now) l.unit l.wanted (branches_at ts (drop l.i l.list)) ≡ l.fn.into ++ labels_some (naming_of l.draft.naming.now) l.unit l.wanted (branches_at ts l.list)
