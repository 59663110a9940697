-- Why the calls that go through statements end, and what their loops keep: those that were passed are made.
use Rattle.std.proofs.Common.{◌+◌, ◌*◌, take}
use Rattle.tla_tree.specs.Pool.{Keeps}
use Rattle.pcal_tree.specs.InMemory.{stmt_at, past_stmt}
use Rattle.pcal_tree.proofs.StatementHeights.{height, heights, branch_heights}
use Rattle.running.specs.Prepared.{names_put, own_put}
use Rattle.running.proofs.MadeOnto.{Made}
use Rattle.running.proofs.Members.{all_twice, some_twice, past_branch, branch_before}
use Rattle.running.proofs.statements.+statements.Given as goal

abbrev pub decreases-stmt : goal.decreases-stmt
decreases-stmt l = 3 * height l.one.now

abbrev pub decreases-prepared_statements : goal.decreases-prepared_statements
decreases-prepared_statements l = 3 * heights l.list.now + 1

abbrev pub decreases-branches : goal.decreases-branches
decreases-branches l = 3 * branch_heights l.list.now + 2

abbrev pub invariant-prepared_statements-loop-one : goal.invariant-prepared_statements-loop-one
invariant-prepared_statements-loop-one l = Keeps l.fn.pool l.pool × Made past_stmt stmt_at (all_twice (own_put l.places.own) (names_put l.places.local)) l.fn.pool l.pool l.made.items (take l.one-index l.list)

abbrev pub invariant-branches-loop-i : goal.invariant-branches-loop-i
invariant-branches-loop-i l = Keeps l.fn.pool l.pool × Made past_branch branch_before (some_twice (own_put l.places.own) (names_put l.places.local)) l.fn.pool l.pool l.rows.items (take l.i l.list)
