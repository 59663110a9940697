-- Proves the law `tokens_are_read_or_refused`.
use Rattle.tla_tree.proofs.LimitedStops.{is_read, is_refused, one_of_both}
use Rattle.tla_tree.proofs.laws.tokens_are_read_or_refused.Goals as goal

pub returns-clause-read : goal.returns-clause-read
returns-clause-read c = is_read

pub returns-clause-refused : goal.returns-clause-refused
returns-clause-refused c = is_refused

pub returns-clause-one : goal.returns-clause-one
returns-clause-one c = one_of_both
