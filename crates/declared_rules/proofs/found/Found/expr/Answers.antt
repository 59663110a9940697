-- Proves that an expression is looked at when it is marked.
use Rattle.std.proofs.Common.{refl}
use Rattle.declared_rules.proofs.JoinLaws.{adds_marked}
use Rattle.declared_rules.proofs.found.Found.expr.Goals as goal

pub returns-then-e-len-clause-adds : goal.returns-then-e-len-clause-adds
returns-then-e-len-clause-adds c = λ less ts. adds_marked ts c.args.self.now _ c.args.e less refl refl refl
