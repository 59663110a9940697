-- Proves that the first offence of procedures is found.
use Rattle.pcal_tree.specs.InMemory.{procedure_at}
use Rattle.read_rules.specs.Locals.{procedure_list}
use Rattle.read_rules.proofs.LocalLaws.{locals_start, locals_more, locals_all}
use Rattle.read_rules.proofs.locals.with_procedures.Goals as goal

pub loop-procedure-init : goal.loop-procedure-init
loop-procedure-init c = locals_start (λ p. procedure_list (procedure_at c.args.pool.now p)) c.args.known.now c.args.so_far c.args.procedures.now

pub loop-procedure-preserved : goal.loop-procedure-preserved
loop-procedure-preserved c =
    locals_more (λ p. procedure_list (procedure_at c.args.pool.now p)) c.args.known.now c.loop-procedure.known c.with_procedure.new.known c.args.so_far c.loop-procedure.found c.in_ok-found.found c.args.procedures.now c.loop-procedure.procedure-index
    c.procedure-item.result c.procedure-item.is c.loop-procedure-test.true c.in_ok-found.ensures.found c.in_ok-found.ensures.kept c.loop-procedure.invariant

pub returns-clause-found : goal.returns-clause-found
returns-clause-found c =
    locals_all procedure_list (procedure_at c.args.pool.now) c.args.known.now c.loop-procedure.known c.args.so_far c.loop-procedure.found c.args.procedures.now c.loop-procedure.procedure-index c.loop-procedure-test.false c.loop-procedure.invariant
