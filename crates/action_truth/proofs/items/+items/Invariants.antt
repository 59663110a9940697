-- Why calls that go through items end, and what their loops keep.
use Rattle.std.proofs.Common.{◌≡◌, ◌+◌, ◌*◌, max, drop, length, reverse, Ok}
use Rattle.tla_value.specs.Value.{Value, values_in, or_all}
use Rattle.tla_value.specs.Meaning.{bind}
use Rattle.module_tree.specs.ActionTruth.{some_member}
use Rattle.module_write.specs.InMemory.{items_at, branches_at}
use Rattle.module_write.proofs.Heights.{height, heights, branch_heights}
use Rattle.action_truth.specs.Pairs.{env_at, items_in, branches_in, StillBound}
use Rattle.action_truth.proofs.items.+items.Given as goal

abbrev pub decreases-item_holds : goal.decreases-item_holds
decreases-item_holds l = 4 * height l.item.now

abbrev pub decreases-items_hold : goal.decreases-items_hold
decreases-items_hold l = 4 * heights l.items.now + 1

abbrev pub decreases-items_with : goal.decreases-items_with
decreases-items_with l = 4 * heights l.items.now + 2

abbrev pub decreases-some_member : goal.decreases-some_member
decreases-some_member l = 4 * heights l.items.now + 3

abbrev pub decreases-local_holds : goal.decreases-local_holds
decreases-local_holds l = 4 * heights l.items.now + 3

abbrev pub decreases-choice_holds : goal.decreases-choice_holds
decreases-choice_holds l = 4 * max (heights l.yes.now) (heights l.no.now) + 3

abbrev pub decreases-some_branch : goal.decreases-some_branch
decreases-some_branch l = 4 * branch_heights l.branches.now + 2

abbrev pub decreases-some_member-loop-v : goal.decreases-some_member-loop-v
decreases-some_member-loop-v l = length l.left.items

-- what is found, and the members that are left, are the whole
abbrev pub invariant-some_member-loop-v : goal.invariant-some_member-loop-v
invariant-some_member-loop-v l =
    let one = λ (v : Value). items_in l.pair (bind l.x v (env_at l.pair l.fn.bound)) (items_at l.pair.asked.pool.now l.items) in record {
      same : or_all (Ok l.found) (some_member (values_in (reverse l.left.items)) one) ≡ some_member (values_in (reverse l.initial.left.items)) one;
      still : StillBound l.fn.bound l.bound;
    }

-- the items that are left tell it
abbrev pub invariant-items_hold-loop-item : goal.invariant-items_hold-loop-item
invariant-items_hold-loop-item l =
    let env = env_at l.pair l.fn.bound in
    let ts = l.pair.asked.pool.now in record {
      same : items_in l.pair env (items_at ts (drop l.item-index l.items)) ≡ items_in l.pair env (items_at ts l.items);
      still : StillBound l.fn.bound l.bound;
    }

-- what is found, and the branches that are left, are the whole
abbrev pub invariant-some_branch-loop-branch : goal.invariant-some_branch-loop-branch
invariant-some_branch-loop-branch l =
    let env = env_at l.pair l.fn.bound in
    let ts = l.pair.asked.pool.now in record {
      same : or_all (Ok l.found) (branches_in l.pair env (branches_at ts (drop l.branch-index l.branches))) ≡ branches_in l.pair env (branches_at ts l.branches);
      still : StillBound l.fn.bound l.bound;
    }
