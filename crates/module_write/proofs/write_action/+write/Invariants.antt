-- Why the calls of `write_item`, `write_items` and `write_branches` end, and what their loops keep.
use Rattle.std.proofs.Common.{◌≡◌, ◌+◌, ◌*◌, ◌++◌, take}
use Rattle.module_write.specs.InMemory.{items_at, branches_at}
use Rattle.module_tree.specs.Layout.{items_text, branches_text}
use Rattle.module_write.proofs.Heights.{height, heights, branch_heights}
use Rattle.module_write.proofs.write_action.+write.Given as goal

abbrev pub decreases-write_item : goal.decreases-write_item
decreases-write_item l = 3 * height l.item.now

abbrev pub decreases-write_items : goal.decreases-write_items
decreases-write_items l = 3 * heights l.items.now + 1

abbrev pub decreases-write_branches : goal.decreases-write_branches
decreases-write_branches l = 3 * branch_heights l.branches.now + 2

abbrev pub invariant-write_items-loop-item : goal.invariant-write_items-loop-item
invariant-write_items-loop-item l = l.into ≡ l.fn.into ++ items_text l.k (items_at l.pool (take l.item-index l.items))

abbrev pub invariant-write_branches-loop-branch : goal.invariant-write_branches-loop-branch
invariant-write_branches-loop-branch l = l.into ≡ l.fn.into ++ branches_text l.k (branches_at l.pool (take l.branch-index l.branches))
