-- Proves the law `translations_are_found_again`.
use Rattle.module_tree.proofs.WalkAgain.{again}
use Rattle.module_tree.proofs.laws.translations_are_found_again.Goals as goal

pub returns : goal.returns
returns c = again
