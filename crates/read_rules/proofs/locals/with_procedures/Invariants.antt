-- What is kept: the first offence of those that were passed, and nothing more is known.
use Rattle.pcal_tree.specs.InMemory.{procedure_at}
use Rattle.read_rules.specs.Locals.{procedure_list}
use Rattle.read_rules.proofs.LocalLaws.{MetLocals}
use Rattle.read_rules.proofs.locals.with_procedures.Given as goal

abbrev pub invariant-loop-procedure : goal.invariant-loop-procedure
invariant-loop-procedure l = MetLocals (λ p. procedure_list (procedure_at l.pool p)) l.fn.known l.known l.fn.so_far l.found l.procedures l.procedure-index
