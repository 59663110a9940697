-- What the loop of `processes` keeps.
use Rattle.std.proofs.Common.{◌≡◌, ◌≤◌, take}
use Rattle.module_tree.specs.Ways.{processes_in}
use Rattle.module_write.specs.InMemory.{ways_at}
use Rattle.module_write.proofs.ways.processes.Given as goal

abbrev pub invariant-loop-way : goal.invariant-loop-way
invariant-loop-way l = (l.count ≡ processes_in (ways_at l.pool (take l.way-index l.ways))) × (l.count ≤ l.way-index)
