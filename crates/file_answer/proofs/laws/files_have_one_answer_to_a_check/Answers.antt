-- Proves the law `files_have_one_answer_to_a_check`.
use Rattle.file_answer.proofs.CheckAnswers.{some_check, one_check}
use Rattle.file_answer.proofs.laws.files_have_one_answer_to_a_check.Goals as goal

pub returns-clause-some : goal.returns-clause-some
returns-clause-some c = some_check

pub returns-clause-one : goal.returns-clause-one
returns-clause-one c = one_check
