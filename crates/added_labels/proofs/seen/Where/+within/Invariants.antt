-- Why the calls that go through statements end, and what their loops keep: what is left of a list still gives the whole.
use Rattle.std.proofs.Common.{◌≡◌, ◌+◌, ◌*◌, ◌||◌, List, drop}
use Rattle.pcal_tree.specs.InMemory.{statements_at, branches_at}
use Rattle.pcal_tree.specs.OffencesSteps.{Before, holds}
use Rattle.pcal_tree.specs.laws.MacroSummaries.{Summary}
use Rattle.pcal_tree.proofs.StatementHeights.{height, heights, branch_heights}
use Rattle.label_steps.specs.KnownIn.{AreMacros}
use Rattle.added_labels.specs.Sight.{effects_of, Stands, IsKept}
use Rattle.added_labels.proofs.SightLaws.{BranchesLeft, ListLeft}
use Rattle.added_labels.proofs.seen.Where.+within.Given as goal

abbrev pub decreases-one : goal.decreases-one
decreases-one l = 4 * height l.stmt.now

abbrev pub decreases-list : goal.decreases-list
decreases-list l = 4 * heights l.stmts.now + 1

abbrev pub decreases-branch : goal.decreases-branch
decreases-branch l = 4 * heights l.stmts.now + 2

abbrev pub decreases-branches : goal.decreases-branches
decreases-branches l = 4 * branch_heights l.list.now + 3

abbrev pub invariant-branches-loop-i : goal.invariant-branches-loop-i
invariant-branches-loop-i l = record {
  names : l.path.names.keys ≡ l.fn.path.names.keys;
  reached : l.path.reached ≡ l.fn.path.reached;
  left : (ms : List Summary) → AreMacros l.self.around.known ms
      → BranchesLeft (effects_of l.self ms) (branches_at l.pool l.list) (branches_at l.pool (drop l.i l.list)) l.fn.path l.fn.seen l.so_far l.ends;
}

abbrev pub invariant-list-loop-i : goal.invariant-list-loop-i
invariant-list-loop-i l = record {
  kept : IsKept l.fn.path l.path l.kept;
  held : (ms : List Summary) → AreMacros l.self.around.known ms → (l.so_far.held || holds (statements_at l.pool (drop l.i l.stmts))) ≡ (l.fn.seen.held || holds (statements_at l.pool l.stmts));
  left : (ms : List Summary) → AreMacros l.self.around.known ms → (p : Before) → Stands l.fn.seen p
      → ListLeft (effects_of l.self ms) (statements_at l.pool l.stmts) (statements_at l.pool (drop l.i l.stmts)) l.fn.path l.path l.kept l.fn.seen l.so_far p;
}
