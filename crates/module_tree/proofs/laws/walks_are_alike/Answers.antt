-- Proves the law `walks_are_alike`.
use Rattle.module_tree.proofs.WalkAlike.{alike}
use Rattle.module_tree.proofs.laws.walks_are_alike.Goals as goal

pub returns : goal.returns
returns c = alike
