-- Why the calls that go through statements end, and what their loops keep: what is left of a list still gives the whole.
use Rattle.std.proofs.Common.{◌+◌, ◌*◌, List, drop}
use Rattle.tla_tree.specs.Tree.{Tree}
use Rattle.pcal_tree.specs.InMemory.{branches_at}
use Rattle.pcal_tree.proofs.StatementHeights.{height, heights, branch_heights}
use Rattle.declared_rules.specs.declared.walk.Walked.{Walked}
use Rattle.declared_rules.specs.Parts.{body_parts, in_branches}
use Rattle.declared_rules.specs.Walking.{Adds}
use Rattle.declared_rules.proofs.walk.Walked.+bodies.Given as goal

abbrev pub decreases-stmt : goal.decreases-stmt
decreases-stmt l = 3 * height l.stmt.now

abbrev pub decreases-body : goal.decreases-body
decreases-body l = 3 * heights l.stmts.now + 1

abbrev pub decreases-branches : goal.decreases-branches
decreases-branches l = 3 * branch_heights l.list.now + 2

abbrev pub invariant-body-loop-stmt : goal.invariant-body-loop-stmt
invariant-body-loop-stmt l = (ts : List Tree) (k : Walked) → Adds ts l.self k (body_parts ts (drop l.stmt-index l.stmts)) → Adds ts l.fn.self k (body_parts ts l.stmts)

abbrev pub invariant-branches-loop-i : goal.invariant-branches-loop-i
invariant-branches-loop-i l = (ts : List Tree) (k : Walked) → Adds ts l.self k (in_branches (branches_at ts (drop l.i l.list))) → Adds ts l.fn.self k (in_branches (branches_at ts l.list))
