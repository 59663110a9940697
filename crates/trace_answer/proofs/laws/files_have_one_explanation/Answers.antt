-- Proves the law `files_have_one_explanation`.
use Rattle.trace_answer.proofs.Explanations.{some_trace, one_trace}
use Rattle.trace_answer.proofs.laws.files_have_one_explanation.Goals as goal

pub returns-clause-some : goal.returns-clause-some
returns-clause-some c = some_trace

pub returns-clause-one : goal.returns-clause-one
returns-clause-one c = one_trace
