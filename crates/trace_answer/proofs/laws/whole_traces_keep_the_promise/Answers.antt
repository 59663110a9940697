-- Proves the law `whole_traces_keep_the_promise`.
use Rattle.trace_answer.proofs.KeptTraces.{keeps_trace}
use Rattle.trace_answer.proofs.laws.whole_traces_keep_the_promise.Goals as goal

pub returns : goal.returns
returns c = keeps_trace
