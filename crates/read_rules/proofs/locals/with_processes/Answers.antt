-- Proves that the first offence of processes is found.
use Rattle.pcal_tree.specs.InMemory.{process_at}
use Rattle.read_rules.specs.Locals.{process_list}
use Rattle.read_rules.proofs.LocalLaws.{locals_start, locals_more, locals_all}
use Rattle.read_rules.proofs.locals.with_processes.Goals as goal

pub loop-process-init : goal.loop-process-init
loop-process-init c = locals_start (λ p. process_list (process_at c.args.pool.now p)) c.args.known.now c.args.so_far c.args.processes.now

pub loop-process-preserved : goal.loop-process-preserved
loop-process-preserved c =
    locals_more (λ p. process_list (process_at c.args.pool.now p)) c.args.known.now c.loop-process.known c.with_process.new.known c.args.so_far c.loop-process.found c.in_ok-found.found c.args.processes.now c.loop-process.process-index
    c.process-item.result c.process-item.is c.loop-process-test.true c.in_ok-found.ensures.found c.in_ok-found.ensures.kept c.loop-process.invariant

pub returns-clause-found : goal.returns-clause-found
returns-clause-found c =
    locals_all process_list (process_at c.args.pool.now) c.args.known.now c.loop-process.known c.args.so_far c.loop-process.found c.args.processes.now c.loop-process.process-index c.loop-process-test.false c.loop-process.invariant
