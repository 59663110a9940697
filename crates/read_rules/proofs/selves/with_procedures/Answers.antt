-- Proves that the first offence of procedures is found.
use Rattle.pcal_tree.specs.InMemory.{procedure_at}
use Rattle.pcal_tree.specs.OffencesSelf.{selves, used_by_procedure}
use Rattle.read_rules.proofs.FoundLaws.{found_more}
use Rattle.read_rules.proofs.SelfLaws.{selves_all}
use Rattle.read_rules.proofs.selves.with_procedures.Goals as goal

pub loop-procedure-preserved : goal.loop-procedure-preserved
loop-procedure-preserved c =
    found_more (λ p. selves (used_by_procedure (procedure_at c.args.pool.now p))) c.args.procedures.now c.loop-procedure.procedure-index c.procedure-item.result c.args.so_far c.loop-procedure.found c.in_ok-found.found c.procedure-item.is
    c.loop-procedure-test.true c.in_ok-found.ensures c.loop-procedure.invariant

pub returns : goal.returns
returns c = selves_all used_by_procedure (procedure_at c.args.pool.now) c.args.procedures.now c.loop-procedure.procedure-index c.args.so_far c.loop-procedure.found c.loop-procedure-test.false c.loop-procedure.invariant
