-- Why the calls that go through statements end, and what their loops keep: what is left of a list still gives the first of the whole.
use Rattle.std.proofs.Common.{◌≡◌, ◌+◌, ◌*◌, List, drop}
use Rattle.tla_tree.specs.Tree.{Tree}
use Rattle.pcal_tree.specs.InMemory.{statements_at, branches_at}
use Rattle.pcal_tree.specs.Offences.{first}
use Rattle.pcal_tree.specs.OffencesLabels.{Within, jump_offences, jump_offences_of_some}
use Rattle.pcal_tree.proofs.StatementHeights.{height, heights, branch_heights}
use Rattle.algorithm_answer.specs.Joined.{joined}
use Rattle.label_jumps.specs.Standing.{Stands}
use Rattle.label_jumps.proofs.jumps.Body.+jumps.Given as goal

abbrev pub decreases-stmt : goal.decreases-stmt
decreases-stmt l = 3 * height l.stmt.now

abbrev pub decreases-body : goal.decreases-body
decreases-body l = 3 * heights l.stmts.now + 1

abbrev pub decreases-branches : goal.decreases-branches
decreases-branches l = 3 * branch_heights l.list.now + 2

abbrev pub invariant-body-loop-stmt : goal.invariant-body-loop-stmt
invariant-body-loop-stmt l =
    (ts : List Tree) (w : Within) → Stands l.self l.in_with w
    → joined l.so_far (first (jump_offences w (statements_at ts (drop l.stmt-index l.stmts)))) ≡ joined l.fn.found (first (jump_offences w (statements_at ts l.stmts)))

abbrev pub invariant-branches-loop-i : goal.invariant-branches-loop-i
invariant-branches-loop-i l =
    (ts : List Tree) (w : Within) → Stands l.self l.in_with w
    → joined l.so_far (first (jump_offences_of_some w (branches_at ts (drop l.i l.list)))) ≡ joined l.fn.found (first (jump_offences_of_some w (branches_at ts l.list)))
