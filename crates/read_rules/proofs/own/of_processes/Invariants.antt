-- What is kept: the first of the offences of the processes that were passed.
use Rattle.std.proofs.Common.{None}
use Rattle.pcal_tree.specs.InMemory.{process_at}
use Rattle.pcal_tree.specs.OffencesReads.{own_in_sets}
use Rattle.read_rules.proofs.FoundLaws.{Found}
use Rattle.read_rules.proofs.own.of_processes.Given as goal

abbrev pub invariant-loop-process : goal.invariant-loop-process
invariant-loop-process l = Found (λ p. own_in_sets (process_at l.pool p)) l.processes l.process-index None l.found
