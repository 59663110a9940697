-- Proves the law `insertions_are_regions`.
use Rattle.module_tree.proofs.WalkAround.{inserted}
use Rattle.module_tree.proofs.laws.insertions_are_regions.Goals as goal

pub returns : goal.returns
returns c = inserted
