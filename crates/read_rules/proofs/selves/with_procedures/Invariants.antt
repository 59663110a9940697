-- What is kept: the first of what was found and of the offences of the procedures that were passed.
use Rattle.pcal_tree.specs.InMemory.{procedure_at}
use Rattle.pcal_tree.specs.OffencesSelf.{selves, used_by_procedure}
use Rattle.read_rules.proofs.FoundLaws.{Found}
use Rattle.read_rules.proofs.selves.with_procedures.Given as goal

abbrev pub invariant-loop-procedure : goal.invariant-loop-procedure
invariant-loop-procedure l = Found (λ p. selves (used_by_procedure (procedure_at l.pool p))) l.procedures l.procedure-index l.fn.so_far l.found
