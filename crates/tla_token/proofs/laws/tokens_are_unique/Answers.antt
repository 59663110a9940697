-- Proves the law `tokens_are_unique`.
use Rattle.tla_token.proofs.Unique.{one_list, one_algorithm}
use Rattle.tla_token.proofs.laws.tokens_are_unique.Goals as goal

pub returns-clause-tokens : goal.returns-clause-tokens
returns-clause-tokens c = one_list

pub returns-clause-algorithm : goal.returns-clause-algorithm
returns-clause-algorithm c = one_algorithm
