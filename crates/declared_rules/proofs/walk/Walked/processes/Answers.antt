-- Proves that all of them are looked at.
use Rattle.declared_rules.specs.Parts.{process_parts}
use Rattle.declared_rules.proofs.WalkLaws.{adds_more, adds_all}
use Rattle.declared_rules.proofs.walk.Walked.processes.Goals as goal

pub loop-process-preserved : goal.loop-process-preserved
loop-process-preserved c = λ ts.
    adds_more ts (process_parts ts) c.args.list.now c.args.self.now c.loop-process.self c.process.new.self c.loop-process.process-index c.process-item.result c.process-item.is c.loop-process-test.true (c.loop-process.invariant ts)
    (c.in_ok-process.ensures ts)

pub returns : goal.returns
returns c = λ ts. adds_all ts (process_parts ts) c.args.list.now c.args.self.now c.loop-process.self c.loop-process.process-index c.loop-process-test.false (c.loop-process.invariant ts)
