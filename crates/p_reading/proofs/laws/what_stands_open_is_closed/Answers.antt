-- Proves the law `what_stands_open_is_closed`.
use Rattle.p_reading.proofs.Closing.{closed_by_rest, few_rest}
use Rattle.p_reading.proofs.laws.what_stands_open_is_closed.Goals as goal

pub returns-clause-closed : goal.returns-clause-closed
returns-clause-closed c = closed_by_rest

pub returns-clause-few : goal.returns-clause-few
returns-clause-few c = few_rest
