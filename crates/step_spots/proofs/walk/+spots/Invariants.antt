-- Why the calls that go through statements end, and what their loops keep: of all labels some are listed, and the rest are left.
use Rattle.std.proofs.Common.{◌≡◌, ◌+◌, ◌*◌, ◌≤◌, max, ◌++◌, List, drop, map}
use Rattle.tla_tree.specs.Tree.{Tree}
use Rattle.pcal_tree.specs.InMemory.{statements_at, branches_at, past_statements, past_branches}
use Rattle.pcal_tree.proofs.StatementHeights.{heights, branch_heights}
use Rattle.step_spots.specs.Targets.{target_word}
use Rattle.step_spots.specs.Spots.{spots, spots_some}
use Rattle.step_spots.specs.InMemory.{spot_at, past_spots, here_at}
use Rattle.step_spots.proofs.walk.+spots.Given as goal

abbrev pub decreases-add_stmt : goal.decreases-add_stmt
decreases-add_stmt l = 3 * heights l.stmts.now + 1

abbrev pub decreases-add_stmts : goal.decreases-add_stmts
decreases-add_stmts l = 3 * heights l.stmts.now + 2

abbrev pub decreases-add_branches : goal.decreases-add_branches
decreases-add_branches l = 3 * branch_heights l.list.now + 3

abbrev pub invariant-add_stmts-loop-i : goal.invariant-add_stmts-loop-i
invariant-add_stmts-loop-i l = record {
  adds :
      (ts : List Tree) → map (spot_at ts) l.out.items ++ spots (here_at ts (target_word l.here) (target_word l.exit) l.stmts l.i) (statements_at ts (drop l.i l.stmts)) (target_word l.exit)
      ≡ map (spot_at ts) l.fn.out.items ++ spots (target_word l.here) (statements_at ts l.stmts) (target_word l.exit);
  within : past_spots l.out.items ≤ max (past_spots l.fn.out.items) (past_statements l.stmts);
}

abbrev pub invariant-add_branches-loop-i : goal.invariant-add_branches-loop-i
invariant-add_branches-loop-i l = record {
  adds :
      (ts : List Tree) → map (spot_at ts) l.out.items ++ spots_some (branches_at ts (drop l.i l.list)) (target_word l.exit)
      ≡ map (spot_at ts) l.fn.out.items ++ spots_some (branches_at ts l.list) (target_word l.exit);
  within : past_spots l.out.items ≤ max (past_spots l.fn.out.items) (past_branches l.list);
}
