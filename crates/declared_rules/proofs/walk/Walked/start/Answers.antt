-- Proves that a first value is looked at.
use Rattle.std.proofs.Common.{sym, ap}
use Rattle.declared_rules.specs.Parts.{start_parts}
use Rattle.declared_rules.proofs.WalkLaws.{adds_none, adds_as}
use Rattle.declared_rules.proofs.walk.Walked.start.Goals as goal

pub returns-in-Unset : goal.returns-in-Unset
returns-in-Unset c = λ ts. adds_as ts c.args.self.now c.args.self.now _ _ (ap (start_parts ts) (sym c.in-Unset.is)) (adds_none ts c.args.self.now)

pub returns-in-Equals : goal.returns-in-Equals
returns-in-Equals c = λ ts. adds_as ts c.args.self.now c.expr.new.self _ _ (ap (start_parts ts) (sym c.in-Equals.is)) (c.expr.ensures ts)

pub returns-in-Among : goal.returns-in-Among
returns-in-Among c = λ ts. adds_as ts c.args.self.now c.expr-in-Among.new.self _ _ (ap (start_parts ts) (sym c.in-Among.is)) (c.expr-in-Among.ensures ts)
