-- Proves the law.
use Rattle.algorithm_answer.proofs.AnswerRules.{answered_by_spelling}
use Rattle.algorithm_answer.proofs.laws.tokens_are_answered_by_spelling.Goals as goal

pub returns : goal.returns
returns c = answered_by_spelling
