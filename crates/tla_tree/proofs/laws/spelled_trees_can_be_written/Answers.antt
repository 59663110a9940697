-- Proves the law `spelled_trees_can_be_written`.
use Rattle.tla_tree.proofs.TextTokens.{text_tokens}
use Rattle.tla_tree.proofs.WritableTrees.{spelled_writable, grafted_writable}
use Rattle.tla_tree.proofs.laws.spelled_trees_can_be_written.Goals as goal

pub returns-clause-tokens : goal.returns-clause-tokens
returns-clause-tokens c = text_tokens

pub returns-clause-trees : goal.returns-clause-trees
returns-clause-trees c = spelled_writable

pub returns-clause-grafts : goal.returns-clause-grafts
returns-clause-grafts c = grafted_writable
