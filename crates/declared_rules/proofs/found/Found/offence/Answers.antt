-- Proves that an offence joins those that were found.
use Rattle.std.proofs.Common.{refl}
use Rattle.declared_rules.proofs.JoinLaws.{joins_first}
use Rattle.declared_rules.proofs.found.Found.offence.Goals as goal

pub returns-clause-joins : goal.returns-clause-joins
returns-clause-joins c = λ ts. joins_first ts c.args.self.now _ _ refl refl c.or_offence-self.ensures
