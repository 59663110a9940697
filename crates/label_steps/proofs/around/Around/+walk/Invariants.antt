-- Why the calls that go through statements end, and what their loops keep: what is left of a list still gives the whole.
use Rattle.std.proofs.Common.{◌≡◌, ◌+◌, ◌*◌, List, [], Some, drop}
use Rattle.pcal_tree.specs.InMemory.{statements_at, branches_at}
use Rattle.pcal_tree.specs.Paths.{Effects}
use Rattle.pcal_tree.specs.laws.MacroSummaries.{Summary}
use Rattle.pcal_tree.proofs.StatementHeights.{height, heights, branch_heights}
use Rattle.label_steps.specs.AroundIn.{effects_around}
use Rattle.label_steps.specs.KnownIn.{AreMacros}
use Rattle.label_steps.specs.PathsIn.{Behind}
use Rattle.label_steps.specs.StraightPaths.{straight, straight_visits}
use Rattle.label_steps.specs.WalksIn.{SameVariables, OnPaths}
use Rattle.label_steps.proofs.WalksLaws.{Left, LeftBehind, ArmsLeft}
use Rattle.label_steps.proofs.around.Around.+walk.Given as goal

abbrev pub decreases-past : goal.decreases-past
decreases-past l = 5 * height l.stmt.now

abbrev pub decreases-behind : goal.decreases-behind
decreases-behind l = 5 * heights l.stmts.now + 1

abbrev pub decreases-list : goal.decreases-list
decreases-list l = 5 * heights l.stmts.now + 2

abbrev pub decreases-arm : goal.decreases-arm
decreases-arm l = 5 * heights l.stmts.now + 3

abbrev pub decreases-arms : goal.decreases-arms
decreases-arms l = 5 * branch_heights l.list.now + 4

abbrev pub invariant-list-loop-i : goal.invariant-list-loop-i
invariant-list-loop-i l = record {
  kept : Behind l.fn.path.names.keys l.path.names.keys;
  left : OnPaths l.self l.fn.path (λ ms E p.
      Left l.self ms E (straight E (statements_at l.pool l.stmts) p) (straight_visits E p (statements_at l.pool l.stmts)) l.fn.met (statements_at l.pool (drop l.i l.stmts)) l.path l.met);
}

abbrev pub invariant-behind-loop-i : goal.invariant-behind-loop-i
invariant-behind-loop-i l =
    (ms : List Summary) → AreMacros l.self.known ms → (E : Effects) → SameVariables E (effects_around l.self ms)
    → LeftBehind l.self ms E (straight_visits E (Some []) (statements_at l.pool (drop l.start l.stmts))) l.fn.met (statements_at l.pool (drop l.i l.stmts)) l.path l.met

abbrev pub invariant-arms-loop-i : goal.invariant-arms-loop-i
invariant-arms-loop-i l = record {
  names : l.path.names.keys ≡ l.fn.path.names.keys;
  reached : l.path.reached ≡ l.fn.path.reached;
  left : OnPaths l.self l.fn.path (λ ms E p. ArmsLeft l.self ms E p l.fn.path (branches_at l.pool l.list) l.fn.met (branches_at l.pool (drop l.i l.list)) l.ends l.met);
}
