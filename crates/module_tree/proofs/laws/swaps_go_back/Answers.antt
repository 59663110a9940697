-- Proves the law `swaps_go_back`.
use Rattle.module_tree.proofs.SwappedBack.{swapped_back}
use Rattle.module_tree.proofs.laws.swaps_go_back.Goals as goal

pub returns : goal.returns
returns c = swapped_back
