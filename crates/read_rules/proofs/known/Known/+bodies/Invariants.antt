-- Why the calls that go through statements end, and what their loops keep: what is left of a list still gives the whole.
use Rattle.std.proofs.Common.{◌+◌, ◌*◌, List, drop, max}
use Rattle.pcal_tree.specs.Algorithm.{Procedure}
use Rattle.pcal_tree.specs.InMemory.{statements_at, branches_at}
use Rattle.pcal_tree.specs.laws.MacroSpots.{MacroSeen, seen_in_call, seen_in_body}
use Rattle.pcal_tree.proofs.StatementHeights.{height, heights, branch_heights}
use Rattle.read_rules.specs.declared.walk.Ways.{Ways}
use Rattle.read_rules.specs.declared.ways.Paths.{Paths}
use Rattle.read_rules.specs.BodiesIn.{in_some}
use Rattle.read_rules.specs.KnownIn.{Knows}
use Rattle.read_rules.specs.WaysIn.{Goes, Branches}
use Rattle.read_rules.proofs.known.Known.+bodies.Given as goal

abbrev pub decreases-stmt : goal.decreases-stmt
decreases-stmt l = 5 * height l.stmt.now

abbrev pub decreases-body : goal.decreases-body
decreases-body l = 5 * heights l.stmts.now + 1

abbrev pub decreases-fork : goal.decreases-fork
decreases-fork l = 5 * heights l.body.now + 2

abbrev pub decreases-branches : goal.decreases-branches
decreases-branches l = 5 * branch_heights l.list.now + 3

abbrev pub decreases-choice : goal.decreases-choice
decreases-choice l = 5 * max (heights l.then.now) (heights l.otherwise.now) + 4

abbrev pub decreases-both : goal.decreases-both
decreases-both l = 5 * max (heights l.then.now) (heights l.otherwise.now) + 3

abbrev pub decreases-either : goal.decreases-either
decreases-either l = 5 * branch_heights l.list.now + 4

abbrev pub decreases-with : goal.decreases-with
decreases-with l = 5 * heights l.body.now + 2

abbrev pub decreases-repeat : goal.decreases-repeat
decreases-repeat l = 5 * heights l.body.now + 3

abbrev pub decreases-rounds : goal.decreases-rounds
decreases-rounds l = 5 * heights l.body.now + 2

abbrev pub invariant-body-loop-stmt : goal.invariant-body-loop-stmt
invariant-body-loop-stmt l =
    (ms : List MacroSeen) (ps : List Procedure) → Knows l.self ms ps → (k : Ways) → Goes l.ways k (λ z. seen_in_body (seen_in_call ms) ps (statements_at l.pool (drop l.stmt-index l.stmts)) z)
    → Goes l.fn.ways k (λ z. seen_in_body (seen_in_call ms) ps (statements_at l.pool l.stmts) z)

abbrev pub invariant-branches-loop-i : goal.invariant-branches-loop-i
invariant-branches-loop-i l =
    (ms : List MacroSeen) (ps : List Procedure) → Knows l.self ms ps → (k : Ways) (e : Paths) → Branches l.ways k l.start l.ends e (in_some (seen_in_call ms) ps (branches_at l.pool (drop l.i l.list)))
    → Branches l.fn.ways k l.start l.fn.ends e (in_some (seen_in_call ms) ps (branches_at l.pool l.list))
