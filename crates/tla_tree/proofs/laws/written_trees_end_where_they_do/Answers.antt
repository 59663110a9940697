-- Proves the law `written_trees_end_where_they_do`.
use Rattle.tla_tree.proofs.Following.{alone_before, operand_before}
use Rattle.tla_tree.proofs.laws.written_trees_end_where_they_do.Goals as goal

pub returns-clause-whole : goal.returns-clause-whole
returns-clause-whole c = alone_before

pub returns-clause-operand : goal.returns-clause-operand
returns-clause-operand c = operand_before
