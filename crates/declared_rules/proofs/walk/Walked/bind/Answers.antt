-- Proves that the expression of what a `with` names is looked at.
use Rattle.std.proofs.Common.{sym, ap}
use Rattle.declared_rules.specs.Parts.{bind_parts}
use Rattle.declared_rules.proofs.WalkLaws.{adds_as}
use Rattle.declared_rules.proofs.walk.Walked.bind.Goals as goal

pub returns-in-Among : goal.returns-in-Among
returns-in-Among c = λ ts. adds_as ts c.args.self.now c.expr.new.self _ _ (ap (bind_parts ts) (sym c.in-Among.is)) (c.expr.ensures ts)

pub returns-in-Is : goal.returns-in-Is
returns-in-Is c = λ ts. adds_as ts c.args.self.now c.expr-in-Is.new.self _ _ (ap (bind_parts ts) (sym c.in-Is.is)) (c.expr-in-Is.ensures ts)
