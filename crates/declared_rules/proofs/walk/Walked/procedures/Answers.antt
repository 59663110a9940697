-- Proves that all of them are looked at.
use Rattle.declared_rules.specs.Parts.{procedure_parts}
use Rattle.declared_rules.proofs.WalkLaws.{adds_more, adds_all}
use Rattle.declared_rules.proofs.walk.Walked.procedures.Goals as goal

pub loop-procedure-preserved : goal.loop-procedure-preserved
loop-procedure-preserved c = λ ts.
    adds_more ts (procedure_parts ts) c.args.list.now c.args.self.now c.loop-procedure.self c.procedure.new.self c.loop-procedure.procedure-index c.procedure-item.result c.procedure-item.is c.loop-procedure-test.true (c.loop-procedure.invariant ts)
    (c.in_ok-procedure.ensures ts)

pub returns : goal.returns
returns c = λ ts. adds_all ts (procedure_parts ts) c.args.list.now c.args.self.now c.loop-procedure.self c.loop-procedure.procedure-index c.loop-procedure-test.false (c.loop-procedure.invariant ts)
