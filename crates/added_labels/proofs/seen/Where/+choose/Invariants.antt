-- Why the calls that go through statements end, and what their loops keep: what is left of a list still gives the whole.
use Rattle.std.proofs.Common.{◌≡◌, ◌+◌, ◌*◌, List, drop}
use Rattle.pcal_tree.specs.InMemory.{statements_at, branches_at}
use Rattle.pcal_tree.specs.OffencesSteps.{Before}
use Rattle.pcal_tree.specs.Paths as paths
use Rattle.pcal_tree.specs.laws.MacroSummaries.{Summary}
use Rattle.pcal_tree.proofs.EffectLaws.{Alike}
use Rattle.pcal_tree.proofs.StatementHeights.{height, heights, branch_heights}
use Rattle.label_steps.specs.KnownIn.{AreMacros}
use Rattle.label_steps.specs.PathsIn.{path_of}
use Rattle.added_labels.specs.Chosen.{OnPath}
use Rattle.added_labels.specs.Sight.{effects_of, IsKept}
use Rattle.added_labels.proofs.ChooseLaws.{ChoiceOfBranches, ChoiceOfList}
use Rattle.added_labels.proofs.seen.Where.+choose.Given as goal

abbrev pub decreases-choose_inside : goal.decreases-choose_inside
decreases-choose_inside l = 4 * height l.stmt.now

abbrev pub decreases-choose_list : goal.decreases-choose_list
decreases-choose_list l = 4 * heights l.stmts.now + 1

abbrev pub decreases-choose_branch : goal.decreases-choose_branch
decreases-choose_branch l = 4 * heights l.stmts.now + 2

abbrev pub decreases-choose_branches : goal.decreases-choose_branches
decreases-choose_branches l = 4 * branch_heights l.list.now + 3

abbrev pub invariant-choose_branches-loop-i : goal.invariant-choose_branches-loop-i
invariant-choose_branches-loop-i l = record {
  names : l.path.names.keys ≡ l.fn.path.names.keys;
  reached : l.path.reached ≡ l.fn.path.reached;
  left : (ms : List Summary) → AreMacros l.self.around.known ms → (q : paths.Path) → Alike (path_of l.fn.path) q
      → ChoiceOfBranches (effects_of l.self ms) q (branches_at l.pool l.list) (branches_at l.pool (drop l.i l.list)) l.fn.path l.fn.seen l.so_far l.ends l.fn.wanted.items l.wanted.items;
}

abbrev pub invariant-choose_list-loop-i : goal.invariant-choose_list-loop-i
invariant-choose_list-loop-i l = record {
  kept : IsKept l.fn.path l.path l.kept;
  left : (ms : List Summary) → AreMacros l.self.around.known ms → (p : Before) → OnPath l.fn.seen l.fn.path p
      → ChoiceOfList (effects_of l.self ms) p (statements_at l.pool l.stmts) (statements_at l.pool (drop l.i l.stmts)) l.path l.kept l.fn.seen l.so_far l.fn.wanted.items l.wanted.items;
}
