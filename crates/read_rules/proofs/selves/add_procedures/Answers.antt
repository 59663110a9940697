-- Proves that the macros that procedures call are marked.
use Rattle.std.proofs.Common.{List, ap}
use Rattle.pcal_tree.specs.declared.algorithm.Stmt.{Stmt}
use Rattle.pcal_tree.specs.InMemory.{procedure_at, statements_at}
use Rattle.pcal_tree.specs.OffencesCounts.{calls_of}
use Rattle.read_rules.specs.Selves.{calls_of_procedure}
use Rattle.read_rules.proofs.CallLaws.{calls_none, calls_as}
use Rattle.read_rules.proofs.SelfLaws.{calls_more, calls_all}
use Rattle.read_rules.proofs.selves.add_procedures.Goals as goal

pub loop-procedure-init : goal.loop-procedure-init
loop-procedure-init c = λ ts. calls_none c.args.called.now

pub loop-procedure-preserved : goal.loop-procedure-preserved
loop-procedure-preserved c = λ ts.
    calls_more (λ p. calls_of_procedure (procedure_at ts p)) c.args.called.now c.loop-procedure.called c.add_calls.new.called c.args.procedures.now c.loop-procedure.procedure-index c.procedure-item.result c.procedure-item.is
    c.loop-procedure-test.true (c.loop-procedure.invariant ts)
    (calls_as c.loop-procedure.called c.add_calls.new.called _ _ (ap (λ (ys : List Stmt). calls_of (statements_at ts ys)) c.deref.ensures.value) (c.in_ok-add_calls.ensures ts))

pub returns : goal.returns
returns c = λ ts. calls_all calls_of_procedure (procedure_at ts) c.args.called.now c.loop-procedure.called c.args.procedures.now c.loop-procedure.procedure-index c.loop-procedure-test.false (c.loop-procedure.invariant ts)
