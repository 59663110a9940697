-- Proves that an offence is told wherever it is looked from.
use Rattle.std.proofs.Common.{refl}
use Rattle.name_rules.proofs.TellLaws.{tells_refused}
use Rattle.name_rules.proofs.found.Found.refuse.Goals as goal

pub returns : goal.returns
returns c = λ rs e. tells_refused c.args.self.now _ c.args.refusal rs e c.least-self.ensures refl refl
