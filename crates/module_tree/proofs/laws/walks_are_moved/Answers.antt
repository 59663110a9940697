-- Proves the law `walks_are_moved`.
use Rattle.module_tree.proofs.WalkMoved.{moved}
use Rattle.module_tree.proofs.laws.walks_are_moved.Goals as goal

pub returns : goal.returns
returns c = moved
