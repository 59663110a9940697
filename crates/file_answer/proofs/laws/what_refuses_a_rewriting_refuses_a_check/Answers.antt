-- Proves the law `what_refuses_a_rewriting_refuses_a_check`.
use Rattle.file_answer.proofs.CheckAnswers.{check_refused}
use Rattle.file_answer.proofs.laws.what_refuses_a_rewriting_refuses_a_check.Goals as goal

pub returns : goal.returns
returns c = check_refused
