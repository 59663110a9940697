-- Why the calls that go through statements end, and what their loops keep: what is left of a list still gives the whole.
use Rattle.std.proofs.Common.{◌≡◌, ◌+◌, ◌*◌, List, drop}
use Rattle.tla_tree.specs.Tree.{Tree}
use Rattle.pcal_tree.proofs.StatementHeights.{height, heights, branch_heights}
use Rattle.label_steps.proofs.WalkLaws.{DueAll, HoldsAll, DueSome, HoldsSome}
use Rattle.label_steps.proofs.due.+due.Given as goal

abbrev pub decreases-past_stmt : goal.decreases-past_stmt
decreases-past_stmt l = 3 * height l.stmt.now

abbrev pub decreases-past_body : goal.decreases-past_body
decreases-past_body l = 3 * heights l.stmts.now + 1

abbrev pub decreases-past_branches : goal.decreases-past_branches
decreases-past_branches l = 3 * branch_heights l.list.now + 2

abbrev pub invariant-past_body-loop-stmt : goal.invariant-past_body-loop-stmt
invariant-past_body-loop-stmt l = record {
  first : (ts : List Tree) → DueAll l.so_far ts (drop l.stmt-index l.stmts) ≡ DueAll l.fn.walk ts l.stmts;
  holds : (ts : List Tree) → HoldsAll l.so_far ts (drop l.stmt-index l.stmts) ≡ HoldsAll l.fn.walk ts l.stmts;
}

abbrev pub invariant-past_branches-loop-i : goal.invariant-past_branches-loop-i
invariant-past_branches-loop-i l = record {
  first : (ts : List Tree) → DueSome l.so_far ts (drop l.i l.list) ≡ DueSome l.fn.walk ts l.list;
  holds : (ts : List Tree) → HoldsSome l.so_far ts (drop l.i l.list) ≡ HoldsSome l.fn.walk ts l.list;
}
