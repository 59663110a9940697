-- Proves the law `files_have_one_answer`.
use Rattle.file_answer.proofs.OneAnswer.{some_answer, one_answer}
use Rattle.file_answer.proofs.laws.files_have_one_answer.Goals as goal

pub returns-clause-some : goal.returns-clause-some
returns-clause-some c = some_answer

pub returns-clause-one : goal.returns-clause-one
returns-clause-one c = one_answer
