-- Proves the law `a_file_is_refused_in_one_way`.
use Rattle.module_tree.proofs.OnePlace.{one_refusal}
use Rattle.module_tree.proofs.laws.a_file_is_refused_in_one_way.Goals as goal

pub returns : goal.returns
returns c = one_refusal
