-- What is kept: the first of what was found and of the offences of the identifiers that were passed.
use Rattle.pcal_tree.specs.InMemory.{process_at}
use Rattle.pcal_tree.specs.OffencesSelf.{selves}
use Rattle.read_rules.proofs.FoundLaws.{Found}
use Rattle.read_rules.proofs.SelfLaws.{used_by_identity}
use Rattle.read_rules.proofs.selves.with_processes.Given as goal

abbrev pub invariant-loop-process : goal.invariant-loop-process
invariant-loop-process l = Found (λ p. selves (used_by_identity (process_at l.pool p))) l.processes l.process-index l.fn.so_far l.found
