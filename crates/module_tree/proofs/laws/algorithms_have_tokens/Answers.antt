-- Proves the law `algorithms_have_tokens`.
use Rattle.module_tree.proofs.AlgorithmIsCut.{algorithm_is_cut}
use Rattle.module_tree.proofs.laws.algorithms_have_tokens.Goals as goal

pub returns : goal.returns
returns c = algorithm_is_cut
