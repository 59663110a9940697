-- Proves the law `algorithms_end_where_they_can`.
use Rattle.module_tree.proofs.AlgorithmEnds.{ends_p, ends_c}
use Rattle.module_tree.proofs.laws.algorithms_end_where_they_can.Goals as goal

pub returns-clause-words : goal.returns-clause-words
returns-clause-words c = ends_p

pub returns-clause-braces : goal.returns-clause-braces
returns-clause-braces c = ends_c
