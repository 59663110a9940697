-- Proves the law `places_may_be_forgotten_before_all_else`.
use Rattle.translation.proofs.RegionPlaced.{region_placed}
use Rattle.translation.proofs.laws.places_may_be_forgotten_before_all_else.Goals as goal

pub returns : goal.returns
returns c = region_placed
