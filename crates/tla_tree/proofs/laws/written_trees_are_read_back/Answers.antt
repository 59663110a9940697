-- Proves the law `written_trees_are_read_back`.
use Rattle.tla_tree.proofs.InText.{read_back, only_tree, reads_back}
use Rattle.tla_tree.proofs.laws.written_trees_are_read_back.Goals as goal

pub returns-clause-tokens : goal.returns-clause-tokens
returns-clause-tokens c = read_back

pub returns-clause-only : goal.returns-clause-only
returns-clause-only c = only_tree

pub returns-clause-read : goal.returns-clause-read
returns-clause-read c = reads_back
