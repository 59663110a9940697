-- Proves the law `texts_have_one_algorithm`.
use Rattle.file_answer.proofs.OneTree.{one_held, one_stands}
use Rattle.file_answer.proofs.one_tree.texts_have_one_algorithm.Goals as goal

pub returns-clause-held : goal.returns-clause-held
returns-clause-held c = one_held

pub returns-clause-stands : goal.returns-clause-stands
returns-clause-stands c = one_stands
