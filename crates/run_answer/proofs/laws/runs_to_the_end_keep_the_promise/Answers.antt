-- Proves the law `runs_to_the_end_keep_the_promise`.
use Rattle.run_answer.proofs.KeptRuns.{keeps_run}
use Rattle.run_answer.proofs.laws.runs_to_the_end_keep_the_promise.Goals as goal

pub returns : goal.returns
returns c = keeps_run
