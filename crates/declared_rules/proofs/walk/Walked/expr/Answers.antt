-- Proves that an expression is looked at and its names are kept.
use Rattle.declared_rules.proofs.WalkLaws.{adds_marked}
use Rattle.declared_rules.proofs.walk.Walked.expr.Goals as goal

pub returns : goal.returns
returns c = λ ts. adds_marked ts c.args.self.now _ c.args.e c.expr.ensures.adds c.expr.ensures.past c.mark.ensures.adds c.mark.ensures.past
