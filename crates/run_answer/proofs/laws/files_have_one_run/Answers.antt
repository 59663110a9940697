-- Proves the law `files_have_one_run`.
use Rattle.run_answer.proofs.Choices.{some_run, one_run}
use Rattle.run_answer.proofs.laws.files_have_one_run.Goals as goal

pub returns-clause-some : goal.returns-clause-some
returns-clause-some c = some_run

pub returns-clause-one : goal.returns-clause-one
returns-clause-one c = one_run
