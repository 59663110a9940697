-- What the loop keeps: what is found, and the disjuncts that are left, are the whole.
use Rattle.std.proofs.Common.{◌≡◌, drop, filter, Ok}
use Rattle.tla_value.specs.Value.{or_all}
use Rattle.module_tree.specs.ProcessPart.{all_for}
use Rattle.module_tree.specs.Ways.{is_procedure, steps_of}
use Rattle.module_write.specs.InMemory.{ways_at}
use Rattle.action_truth.specs.Pairs.{all_acts}
use Rattle.action_truth.proofs.processes.procedures_hold.Given as goal

abbrev pub invariant-loop-way : goal.invariant-loop-way
invariant-loop-way l =
    let ts = l.pair.asked.pool.now in
    or_all (Ok l.found) (all_for (all_acts l.pair) l.who (filter is_procedure (steps_of (ways_at ts (drop l.way-index l.ways))))) ≡ all_for (all_acts l.pair) l.who (filter is_procedure (steps_of (ways_at ts l.ways)))
