-- Proves the law `tokens_are_of_one_syntax`.
use Rattle.c_reading.proofs.OneSyntax.{syntaxes_apart, no_tree_in_both}
use Rattle.c_reading.proofs.laws.tokens_are_of_one_syntax.Goals as goal

pub returns-clause-phrase : goal.returns-clause-phrase
returns-clause-phrase c = syntaxes_apart

pub returns-clause-tree : goal.returns-clause-tree
returns-clause-tree c = no_tree_in_both
