-- Proves that the names of an expression are added when it is marked.
use Rattle.std.proofs.Common.{refl}
use Rattle.declared_rules.proofs.MetWalks.{adds_marked}
use Rattle.declared_rules.proofs.met.Met.mark.Goals as goal

pub returns-then-e-len-clause-adds : goal.returns-then-e-len-clause-adds
returns-then-e-len-clause-adds c = λ less ts. adds_marked ts c.args.self.now _ c.args.e less refl refl
