-- Proves the law `what_a_check_accepts_is_rewritten`.
use Rattle.file_answer.proofs.CheckAnswers.{accepted_is_rewritten}
use Rattle.file_answer.proofs.laws.what_a_check_accepts_is_rewritten.Goals as goal

pub returns : goal.returns
returns c = accepted_is_rewritten
