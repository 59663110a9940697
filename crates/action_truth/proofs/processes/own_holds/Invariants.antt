-- What the loop keeps: what is found, and the cases that are left, are the whole.
use Rattle.std.proofs.Common.{drop, map}
use Rattle.tla_tree.specs.Pool.{at}
use Rattle.tla_value.specs.Limits.{bounded}
use Rattle.module_tree.specs.ProcessPart.{cases_for}
use Rattle.module_tree.specs.Ways.{own_steps}
use Rattle.module_write.specs.InMemory.{ways_at}
use Rattle.action_truth.specs.Pairs.{scope_at, all_acts}
use Rattle.action_truth.proofs.Disjunctions.{Cases}
use Rattle.action_truth.proofs.processes.own_holds.Given as goal

abbrev pub invariant-loop-way : goal.invariant-loop-way
invariant-loop-way l =
    let ts = l.pair.asked.pool.now in
    let env = scope_at l.pair in
    Cases ts env (all_acts l.pair) l.who (cases_for bounded env (all_acts l.pair) l.who (own_steps (ways_at ts l.ways)) (map (at ts) l.own)) l.found (drop l.way-index l.ways) (drop l.k l.own)
