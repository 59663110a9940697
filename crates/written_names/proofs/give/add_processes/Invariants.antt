-- What is kept: those that were passed have their names.
use Rattle.std.proofs.Common.{List, map, take}
use Rattle.tla_tree.specs.Tree.{Tree}
use Rattle.pcal_tree.specs.InMemory.{process_at}
use Rattle.written_names.specs.Units.{asked_process, AddsUnits}
use Rattle.written_names.proofs.give.add_processes.Given as goal

abbrev pub invariant-loop-process : goal.invariant-loop-process
invariant-loop-process l = (ts : List Tree) → AddsUnits l.fn.giver l.giver l.fn.units.items l.units.items (map (λ p. asked_process (process_at ts p)) (take l.process-index l.processes))
