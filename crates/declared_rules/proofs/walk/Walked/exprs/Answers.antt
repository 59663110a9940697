-- Proves that expressions are looked at.
use Rattle.declared_rules.specs.Parts.{expr_parts}
use Rattle.declared_rules.proofs.WalkLaws.{adds_item, adds_all}
use Rattle.declared_rules.proofs.walk.Walked.exprs.Goals as goal

pub loop-e-preserved : goal.loop-e-preserved
loop-e-preserved c = λ ts. adds_item ts (expr_parts ts) c.args.es.now c.args.self.now c.loop-e.self c.expr.new.self c.loop-e.e-index 0 c.loop-e-test.true (c.loop-e.invariant ts) (c.expr.ensures ts)

pub returns : goal.returns
returns c = λ ts. adds_all ts (expr_parts ts) c.args.es.now c.args.self.now c.loop-e.self c.loop-e.e-index c.loop-e-test.false (c.loop-e.invariant ts)
