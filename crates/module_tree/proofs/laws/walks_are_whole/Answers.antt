-- Proves the law `walks_are_whole`.
use Rattle.module_tree.proofs.WalkWhole.{whole}
use Rattle.module_tree.proofs.laws.walks_are_whole.Goals as goal

pub returns : goal.returns
returns c = whole
