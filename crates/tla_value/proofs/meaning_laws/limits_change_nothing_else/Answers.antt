-- Proves the law `limits_change_nothing_else`.
use Rattle.tla_value.proofs.Below.{scope_below, bind_below, through_below, eval_below}
use Rattle.tla_value.proofs.meaning_laws.limits_change_nothing_else.Goals as goal

pub returns-clause-scope : goal.returns-clause-scope
returns-clause-scope c = scope_below

pub returns-clause-bound : goal.returns-clause-bound
returns-clause-bound c = bind_below

pub returns-clause-grafted : goal.returns-clause-grafted
returns-clause-grafted c = through_below

pub returns-clause-outcome : goal.returns-clause-outcome
returns-clause-outcome c = eval_below
