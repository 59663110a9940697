-- What the loop keeps: what is found, and the disjuncts that are left, are the whole.
use Rattle.std.proofs.Common.{◌≡◌, drop, Ok}
use Rattle.tla_value.specs.Value.{or_all}
use Rattle.tla_value.specs.Limits.{bounded}
use Rattle.module_tree.specs.ActionTruth.{some_way_holds}
use Rattle.module_tree.specs.Ways.{steps_of}
use Rattle.module_write.specs.InMemory.{ways_at}
use Rattle.action_truth.specs.Pairs.{env_at, all_acts, StillBound}
use Rattle.action_truth.proofs.processes.steps_hold.Given as goal

abbrev pub invariant-loop-way : goal.invariant-loop-way
invariant-loop-way l =
    let env = env_at l.pair l.fn.bound in
    let ts = l.pair.asked.pool.now in record {
      same : or_all (Ok l.found) (some_way_holds bounded env (all_acts l.pair) (steps_of (ways_at ts (drop l.way-index l.ways)))) ≡ some_way_holds bounded env (all_acts l.pair) (steps_of (ways_at ts l.ways));
      still : StillBound l.fn.bound l.bound;
    }
