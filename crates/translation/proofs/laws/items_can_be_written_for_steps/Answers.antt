-- Proves the law `items_can_be_written_for_steps`.
use Rattle.translation.proofs.KeptPrimes.{nothing_primed}
use Rattle.translation.proofs.NextLaw.{items_ready}
use Rattle.translation.proofs.laws.items_can_be_written_for_steps.Goals as goal

pub returns-clause-ready : goal.returns-clause-ready
returns-clause-ready c = items_ready

pub returns-clause-unprimed : goal.returns-clause-unprimed
returns-clause-unprimed c = nothing_primed
