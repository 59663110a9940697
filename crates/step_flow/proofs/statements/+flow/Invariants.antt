-- Why calls that go through statements end, and what their loop keeps: what comes of the rest from there is what comes of the list.
use Rattle.std.proofs.Common.{◌≡◌, ◌+◌, ◌*◌, max, drop}
use Rattle.pcal_tree.specs.Algorithm.{Routine}
use Rattle.pcal_tree.specs.Program.{Actor}
use Rattle.pcal_tree.specs.Run.{Partner}
use Rattle.pcal_tree.proofs.StatementHeights.{height, heights, branch_heights}
use Rattle.step_spots.specs.Targets.{target_word}
use Rattle.step_moves.specs.Runners.{IsRunner}
use Rattle.step_flow.specs.Ends.{list_from, Stands, Rebound}
use Rattle.step_flow.proofs.statements.+flow.Given as goal

abbrev pub decreases-branch : goal.decreases-branch
decreases-branch l = 4 * max (heights l.yes.now) (heights l.no.now) + 5

abbrev pub decreases-either : goal.decreases-either
decreases-either l = 4 * branch_heights l.branches.now + 5

abbrev pub decreases-with : goal.decreases-with
decreases-with l = 4 * heights l.body.now + 5

abbrev pub decreases-repeat : goal.decreases-repeat
decreases-repeat l = 4 * heights l.body.now + 5

abbrev pub decreases-one : goal.decreases-one
decreases-one l = 4 * height l.stmt.now + 2

abbrev pub decreases-statements : goal.decreases-statements
decreases-statements l = 4 * heights l.list.now + 3

abbrev pub invariant-statements-loop-i : goal.invariant-statements-loop-i
invariant-statements-loop-i l = record {
  same : (v : Actor) (u : Routine) (j : Partner) → IsRunner l.runner v u
      → list_from l.runner v u (target_word l.label) (drop l.i l.list) (target_word l.exit) j l.going l.choices ≡ list_from l.runner v u (target_word l.fn.here) l.list (target_word l.exit) j l.fn.going l.choices;
  stands : Stands l.runner l.going;
  bound : Rebound l.fn.going l.going;
}
