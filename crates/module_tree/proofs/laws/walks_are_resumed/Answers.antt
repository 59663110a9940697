-- Proves the law `walks_are_resumed`.
use Rattle.module_tree.proofs.WalkResumed.{resumed}
use Rattle.module_tree.proofs.laws.walks_are_resumed.Goals as goal

pub returns : goal.returns
returns c = resumed
