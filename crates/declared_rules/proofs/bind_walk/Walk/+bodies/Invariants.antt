-- Why the calls that go through statements end, and what their loops keep: what is left of a list still gives the whole.
use Rattle.std.proofs.Common.{◌+◌, ◌*◌, List, drop}
use Rattle.std.specs.List.{flat_map}
use Rattle.tla_tree.specs.Tree.{Word}
use Rattle.pcal_tree.specs.Algorithm.{Procedure}
use Rattle.pcal_tree.specs.InMemory.{statements_at}
use Rattle.pcal_tree.specs.OffencesRebind.{any_name, Calls, body_rebinds}
use Rattle.pcal_tree.proofs.StatementHeights.{height, heights, branch_heights}
use Rattle.declared_rules.specs.declared.bind_walk.Walk.{Walk}
use Rattle.declared_rules.specs.Telling.{Adds}
use Rattle.declared_rules.specs.Keeping.{KnowsCalls}
use Rattle.declared_rules.proofs.bind_walk.Walk.+bodies.Given as goal

abbrev pub decreases-stmt : goal.decreases-stmt
decreases-stmt l = 3 * height l.stmt.now

abbrev pub decreases-body : goal.decreases-body
decreases-body l = 3 * heights l.stmts.now + 1

abbrev pub decreases-branches : goal.decreases-branches
decreases-branches l = 3 * branch_heights l.list.now + 2

abbrev pub invariant-body-loop-stmt : goal.invariant-body-loop-stmt
invariant-body-loop-stmt l =
    (C : List Word → Calls) (ps : List Procedure) → KnowsCalls l.sight l.calls C ps → (k : Walk) → Adds l.sight any_name l.self k (λ ms r. body_rebinds ms ps (C ms) (statements_at l.pool (drop l.stmt-index l.stmts)) r)
    → Adds l.sight any_name l.fn.self k (λ ms r. body_rebinds ms ps (C ms) (statements_at l.pool l.stmts) r)

abbrev pub invariant-branches-loop-i : goal.invariant-branches-loop-i
invariant-branches-loop-i l =
    (C : List Word → Calls) (ps : List Procedure) → KnowsCalls l.sight l.calls C ps → (k : Walk) → Adds l.sight any_name l.self k (λ ms r. flat_map (λ b. body_rebinds ms ps (C ms) (statements_at l.pool b.items) r) (drop l.i l.list))
    → Adds l.sight any_name l.fn.self k (λ ms r. flat_map (λ b. body_rebinds ms ps (C ms) (statements_at l.pool b.items) r) l.list)
