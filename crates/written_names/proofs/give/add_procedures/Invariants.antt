-- What is kept: those that were passed have their names.
use Rattle.std.proofs.Common.{List, map, take}
use Rattle.tla_tree.specs.Tree.{Tree}
use Rattle.pcal_tree.specs.InMemory.{procedure_at}
use Rattle.written_names.specs.Units.{asked_procedure, AddsUnits}
use Rattle.written_names.proofs.give.add_procedures.Given as goal

abbrev pub invariant-loop-procedure : goal.invariant-loop-procedure
invariant-loop-procedure l = (ts : List Tree) → AddsUnits l.fn.giver l.giver l.fn.units.items l.units.items (map (λ p. asked_procedure (procedure_at ts p)) (take l.procedure-index l.procedures))
