-- Proves the law `tokens_spell_one_algorithm`.
use Rattle.c_reading.proofs.WholeAlgorithm.{one_text, one_tree}
use Rattle.c_reading.proofs.laws.tokens_spell_one_algorithm.Goals as goal

pub returns-clause-phrase : goal.returns-clause-phrase
returns-clause-phrase c = one_text

pub returns-clause-tree : goal.returns-clause-tree
returns-clause-tree c = one_tree
