-- Proves the law `files_that_are_not_refused_have_one_map`.
use Rattle.file_answer.proofs.CheckAnswers.{some_map, one_map}
use Rattle.file_answer.proofs.laws.files_that_are_not_refused_have_one_map.Goals as goal

pub returns-clause-some : goal.returns-clause-some
returns-clause-some c = some_map

pub returns-clause-one : goal.returns-clause-one
returns-clause-one c = one_map
