-- Why the calls that go through statements end, and what their loops keep: labels were put before those that were passed.
use Rattle.std.proofs.Common.{◌+◌, ◌*◌, length, take}
use Rattle.pcal_tree.proofs.StatementHeights.{height, heights, branch_heights}
use Rattle.placed_labels.proofs.PlaceLaws.{PutsSome, PutsIn}
use Rattle.placed_labels.proofs.place.Plan.+place.Given as goal

abbrev pub decreases-inside : goal.decreases-inside
decreases-inside l = 3 * height l.stmt

abbrev pub decreases-statements : goal.decreases-statements
decreases-statements l = 3 * heights l.stmts.items + 1

abbrev pub decreases-branches : goal.decreases-branches
decreases-branches l = 3 * branch_heights l.list.items + 2

abbrev pub invariant-branches-loop-stmts : goal.invariant-branches-loop-stmts
invariant-branches-loop-stmts l = PutsIn l.fn.self l.self (take (length l.yielded) l.fn.list.items) l.out.items

abbrev pub invariant-statements-loop-stmt : goal.invariant-statements-loop-stmt
invariant-statements-loop-stmt l = PutsSome l.fn.self l.self (take (length l.yielded) l.fn.stmts.items) l.out.items
