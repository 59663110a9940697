-- Proves the law `a_spelled_value_ends_once`.
use Rattle.tla_value.proofs.ValueOnce.{value_once, spelled_once}
use Rattle.tla_value.proofs.laws.a_spelled_value_ends_once.Goals as goal

pub returns-clause-end : goal.returns-clause-end
returns-clause-end c = λ bytes at to end v w s t. (value_once bytes at to end v w s t).0

pub returns-clause-value : goal.returns-clause-value
returns-clause-value c = λ bytes at to end v w s t. (value_once bytes at to end v w s t).1

pub returns-clause-tokens : goal.returns-clause-tokens
returns-clause-tokens c = spelled_once
