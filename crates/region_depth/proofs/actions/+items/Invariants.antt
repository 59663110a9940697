-- Why the calls that look at items end, and what is kept while lists are gone through.
use Rattle.std.proofs.Common.{◌+◌, ◌-◌, ◌*◌}
use Rattle.region_depth.proofs.Rows.{HaveRoom}
use Rattle.region_depth.proofs.Lists.{of_items, of_branches}
use Rattle.region_depth.proofs.actions.+items.Given as goal

abbrev pub decreases-item_fits : goal.decreases-item_fits
decreases-item_fits l = 2 * (1202 - l.depth) + 1

abbrev pub decreases-items_fit : goal.decreases-items_fit
decreases-items_fit l = 2 * (1202 - l.depth)

abbrev pub decreases-branches_fit : goal.decreases-branches_fit
decreases-branches_fit l = 2 * (1202 - l.depth)

abbrev pub invariant-items_fit-loop-item : goal.invariant-items_fit-loop-item
invariant-items_fit-loop-item l = HaveRoom (of_items l.pool) l.depth l.items l.item-index

abbrev pub invariant-branches_fit-loop-branch : goal.invariant-branches_fit-loop-branch
invariant-branches_fit-loop-branch l = HaveRoom (of_branches l.pool) l.depth l.branches l.branch-index
