-- Proves the law `trees_are_written_in_tokens`.
use Rattle.tla_tree.proofs.Operands.{operand_primary}
use Rattle.tla_tree.proofs.SpelledTrees.{written_is_spelled}
use Rattle.tla_tree.proofs.WrittenPhrase.{written_phrase}
use Rattle.tla_tree.proofs.WrittenTree.{written_tree}
use Rattle.tla_tree.proofs.laws.trees_are_written_in_tokens.Goals as goal

pub returns-clause-tokens : goal.returns-clause-tokens
returns-clause-tokens c = written_is_spelled

pub returns-clause-operand : goal.returns-clause-operand
returns-clause-operand c = operand_primary

pub returns-clause-phrase : goal.returns-clause-phrase
returns-clause-phrase c = written_phrase

pub returns-clause-tree : goal.returns-clause-tree
returns-clause-tree c = written_tree
