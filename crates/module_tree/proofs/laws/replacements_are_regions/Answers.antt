-- Proves the law `replacements_are_regions`.
use Rattle.module_tree.proofs.WalkAround.{replaced}
use Rattle.module_tree.proofs.laws.replacements_are_regions.Goals as goal

pub returns : goal.returns
returns c = replaced
