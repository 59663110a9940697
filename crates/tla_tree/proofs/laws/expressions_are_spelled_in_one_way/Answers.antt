-- Proves the law `expressions_are_spelled_in_one_way`.
use Rattle.tla_tree.proofs.ReadAll.{one_phrase, one_tree}
use Rattle.tla_tree.proofs.laws.expressions_are_spelled_in_one_way.Goals as goal

pub returns-clause-phrase : goal.returns-clause-phrase
returns-clause-phrase c = one_phrase 0

pub returns-clause-tree : goal.returns-clause-tree
returns-clause-tree c = one_tree
