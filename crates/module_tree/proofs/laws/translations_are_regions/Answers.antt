-- Proves the law `translations_are_regions`.
use Rattle.module_tree.proofs.WalkWritten.{written}
use Rattle.module_tree.proofs.laws.translations_are_regions.Goals as goal

pub returns : goal.returns
returns c = written
