-- Proves the law `written_trees_are_spelled`.
use Rattle.tla_tree.proofs.InText.{cut}
use Rattle.tla_tree.proofs.laws.written_trees_are_spelled.Goals as goal

pub returns : goal.returns
returns c = cut
