-- Proves the law.
use Rattle.algorithm_answer.proofs.AnswerRules.{late_is_read}
use Rattle.algorithm_answer.proofs.laws.late_answers_are_where_reading_stops.Goals as goal

pub returns : goal.returns
returns c = late_is_read
