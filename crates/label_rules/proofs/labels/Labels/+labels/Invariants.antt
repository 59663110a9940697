-- Why the calls that go through statements end, and what their loops keep: what is left of a list still gives the whole.
use Rattle.std.proofs.Common.{◌+◌, ◌*◌, false, List, drop}
use Rattle.tla_tree.specs.Tree.{Tree}
use Rattle.pcal_tree.specs.InMemory.{statements_at, branches_at}
use Rattle.pcal_tree.specs.OffencesLabels.{labels, labels_of_some}
use Rattle.pcal_tree.proofs.StatementHeights.{height, heights, branch_heights}
use Rattle.label_rules.specs.declared.labels.Labels.{Labels}
use Rattle.label_rules.specs.Meeting.{Meets}
use Rattle.label_rules.proofs.labels.Labels.+labels.Given as goal

abbrev pub decreases-stmt : goal.decreases-stmt
decreases-stmt l = 3 * height l.stmt.now

abbrev pub decreases-body : goal.decreases-body
decreases-body l = 3 * heights l.stmts.now + 1

abbrev pub decreases-branches : goal.decreases-branches
decreases-branches l = 3 * branch_heights l.list.now + 2

abbrev pub invariant-body-loop-stmt : goal.invariant-body-loop-stmt
invariant-body-loop-stmt l = (ts : List Tree) (k : Labels) → Meets l.self k (labels l.before (statements_at ts (drop l.stmt-index l.stmts))) → Meets l.fn.self k (labels false (statements_at ts l.stmts))

abbrev pub invariant-branches-loop-i : goal.invariant-branches-loop-i
invariant-branches-loop-i l = (ts : List Tree) (k : Labels) → Meets l.self k (labels_of_some (branches_at ts (drop l.i l.list))) → Meets l.fn.self k (labels_of_some (branches_at ts l.list))
