-- Proves the law `tokens_are_one_unit`.
use Rattle.module_tree.proofs.OneUnit.{one_unit}
use Rattle.module_tree.proofs.laws.tokens_are_one_unit.Goals as goal

pub returns : goal.returns
returns c = one_unit
