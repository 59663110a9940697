-- Proves the law `units_are_of_one_region`.
use Rattle.module_tree.proofs.OneRegion.{one_region}
use Rattle.module_tree.proofs.laws.units_are_of_one_region.Goals as goal

pub returns : goal.returns
returns c = one_region
