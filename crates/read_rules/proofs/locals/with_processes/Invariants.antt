-- What is kept: the first offence of those that were passed, and nothing more is known.
use Rattle.pcal_tree.specs.InMemory.{process_at}
use Rattle.read_rules.specs.Locals.{process_list}
use Rattle.read_rules.proofs.LocalLaws.{MetLocals}
use Rattle.read_rules.proofs.locals.with_processes.Given as goal

abbrev pub invariant-loop-process : goal.invariant-loop-process
invariant-loop-process l = MetLocals (λ p. process_list (process_at l.pool p)) l.fn.known l.known l.fn.so_far l.found l.processes l.process-index
