-- Proves the law `the_algorithm_decides`.
use Rattle.file_answer.proofs.Decided.{algorithm_decides}
use Rattle.file_answer.proofs.laws.the_algorithm_decides.Goals as goal

pub returns : goal.returns
returns c = algorithm_decides
