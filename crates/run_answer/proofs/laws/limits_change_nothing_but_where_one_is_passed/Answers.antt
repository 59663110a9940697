-- Proves the law `limits_change_nothing_but_where_one_is_passed`.
use Rattle.run_answer.proofs.Steps.{actors_below, stepped_below}
use Rattle.run_answer.proofs.Starts.{start_below}
use Rattle.run_answer.proofs.laws.limits_change_nothing_but_where_one_is_passed.Goals as goal

pub returns-clause-processes : goal.returns-clause-processes
returns-clause-processes c = actors_below

pub returns-clause-start : goal.returns-clause-start
returns-clause-start c = start_below

pub returns-clause-step : goal.returns-clause-step
returns-clause-step c = stepped_below
