-- Why the calls of the readers end, and what their loops keep.
use Rattle.std.proofs.Common.{◌≤◌, ◌+◌, ◌*◌, ◌-◌, length}
use Rattle.tla_tree.specs.Pool.{Keeps}
use Rattle.expr_nodes.specs.Ahead.{ahead}
use Rattle.region_items.proofs.ItemsGathered.{ItemsSoFar, BranchesSoFar}
use Rattle.region_items.proofs.items.+items.Given as goal

-- how many forms may open; and of those that read where as many may, in which order they call one another
abbrev pub decreases-list : goal.decreases-list
decreases-list l = 4 * l.s.left

abbrev pub decreases-item : goal.decreases-item
decreases-item l = 4 * l.s.left

abbrev pub decreases-exists : goal.decreases-exists
decreases-exists l = 4 * l.s.left + 1

abbrev pub decreases-local : goal.decreases-local
decreases-local l = 4 * l.s.left + 1

abbrev pub decreases-choice : goal.decreases-choice
decreases-choice l = 4 * l.s.left + 1

abbrev pub decreases-next_item : goal.decreases-next_item
decreases-next_item l = 4 * l.s.left + 1

abbrev pub decreases-next_branch : goal.decreases-next_branch
decreases-next_branch l = 4 * l.s.left + 1

abbrev pub decreases-items : goal.decreases-items
decreases-items l = 4 * l.s.left + 2

abbrev pub decreases-branches : goal.decreases-branches
decreases-branches l = 4 * l.s.left + 2

abbrev pub invariant-items-loop-all : goal.invariant-items-loop-all
invariant-items-loop-all l =
    record {
      so_far : ItemsSoFar l.s.left l.s.edge l.col l.pool (ahead l.tokens l.s.at) (ahead l.tokens l.at) l.all.items;
      kept : Keeps l.fn.pool l.pool;
      inside : l.at ≤ length l.tokens.items.items;
      further : l.s.at ≤ l.at;
    }

abbrev pub decreases-items-loop-all : goal.decreases-items-loop-all
decreases-items-loop-all l = length l.tokens.items.items - l.at

abbrev pub invariant-branches-loop-all : goal.invariant-branches-loop-all
invariant-branches-loop-all l =
    record {
      so_far : BranchesSoFar l.s.left l.s.edge l.col l.pool (ahead l.tokens l.s.at) (ahead l.tokens l.at) l.all.items;
      kept : Keeps l.fn.pool l.pool;
      inside : l.at ≤ length l.tokens.items.items;
      further : l.s.at ≤ l.at;
    }

abbrev pub decreases-branches-loop-all : goal.decreases-branches-loop-all
decreases-branches-loop-all l = length l.tokens.items.items - l.at
