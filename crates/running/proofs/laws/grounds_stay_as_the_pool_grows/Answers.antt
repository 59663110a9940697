-- Proves the law `grounds_stay_as_the_pool_grows`.
use Rattle.running.proofs.GroundsLaws.{grounds_kept}
use Rattle.running.proofs.laws.grounds_stay_as_the_pool_grows.Goals as goal

pub returns : goal.returns
returns c = grounds_kept
