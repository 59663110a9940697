-- Proves the law `names_and_then_labels_decide_a_check`.
use Rattle.file_answer.proofs.CheckAnswers.{check_decided}
use Rattle.file_answer.proofs.laws.names_and_then_labels_decide_a_check.Goals as goal

pub returns : goal.returns
returns c = check_decided
