-- Why calls of actions end: each calls those before it; and what loops over them keep.
use Rattle.std.proofs.Common.{◌≡◌, ◌+◌, ◌*◌, drop, length, reverse, Ok}
use Rattle.tla_value.specs.Value.{Value, values_in, or_all}
use Rattle.tla_value.specs.Limits.{bounded}
use Rattle.tla_value.specs.Meaning.{bind}
use Rattle.module_tree.specs.ActionTruth.{some_member, call_holds, some_way_holds}
use Rattle.module_write.specs.InMemory.{call_at, ways_at}
use Rattle.action_truth.specs.Pairs.{env_at, acts_at, StillBound}
use Rattle.action_truth.proofs.actions.+actions.Given as goal

abbrev pub decreases-called : goal.decreases-called
decreases-called l = 7 * l.before

abbrev pub decreases-call_holds : goal.decreases-call_holds
decreases-call_holds l = 7 * l.before + 1

abbrev pub decreases-call_with : goal.decreases-call_with
decreases-call_with l = 7 * l.before + 2

abbrev pub decreases-some_call : goal.decreases-some_call
decreases-some_call l = 7 * l.before + 3

abbrev pub decreases-way_holds : goal.decreases-way_holds
decreases-way_holds l = 7 * l.before + 4

abbrev pub decreases-some_way : goal.decreases-some_way
decreases-some_way l = 7 * l.before + 5

abbrev pub decreases-action_holds : goal.decreases-action_holds
decreases-action_holds l = 7 * l.before + 6

abbrev pub decreases-some_call-loop-v : goal.decreases-some_call-loop-v
decreases-some_call-loop-v l = length l.left.items

-- what is found, and the members that are left, are the whole
abbrev pub invariant-some_call-loop-v : goal.invariant-some_call-loop-v
invariant-some_call-loop-v l =
    let one = λ (v : Value). call_holds bounded (bind l.x v (env_at l.pair l.fn.bound)) (acts_at l.pair l.before) (call_at l.pair.asked.pool.now l.call) in record {
      same : or_all (Ok l.found) (some_member (values_in (reverse l.left.items)) one) ≡ some_member (values_in (reverse l.initial.left.items)) one;
      still : StillBound l.fn.bound l.bound;
    }

-- what is found, and the calls that are left, are the whole
abbrev pub invariant-some_way-loop-way : goal.invariant-some_way-loop-way
invariant-some_way-loop-way l =
    let env = env_at l.pair l.fn.bound in
    let ts = l.pair.asked.pool.now in record {
      same : or_all (Ok l.found) (some_way_holds bounded env (acts_at l.pair l.before) (ways_at ts (drop l.way-index l.ways))) ≡ some_way_holds bounded env (acts_at l.pair l.before) (ways_at ts l.ways);
      still : StillBound l.fn.bound l.bound;
    }
