-- Proves the law `the_promise_rests_on_regions`.
use Rattle.translation.specs.laws.AcceptedAlgorithm.{IsAcceptedInFile}
use Rattle.translation.proofs.PromiseKept.{promise_kept}
use Rattle.translation.proofs.RegionPlaced.{region_placed}
use Rattle.translation.proofs.laws.the_promise_rests_on_regions.Goals as goal

pub returns : goal.returns
returns c = λ next init. promise_kept IsAcceptedInFile next init region_placed
