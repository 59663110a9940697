-- Proves the law `a_text_is_one_module`.
use Rattle.module_tree.proofs.OneModule.{one_module}
use Rattle.module_tree.proofs.laws.a_text_is_one_module.Goals as goal

pub returns : goal.returns
returns c = one_module
