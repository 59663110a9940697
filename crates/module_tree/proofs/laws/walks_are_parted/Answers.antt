-- Proves the law `walks_are_parted`.
use Rattle.module_tree.proofs.WalkParted.{parted}
use Rattle.module_tree.proofs.laws.walks_are_parted.Goals as goal

pub returns : goal.returns
returns c = parted
