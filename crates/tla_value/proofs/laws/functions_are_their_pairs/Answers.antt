-- Proves the law `functions_are_their_pairs`.
use Rattle.tla_value.proofs.OrderFuns.{fun_from_at, fun_from_canonical}
use Rattle.tla_value.proofs.laws.functions_are_their_pairs.Goals as goal

pub returns-clause-value : goal.returns-clause-value
returns-clause-value c = fun_from_at

pub returns-clause-canonical : goal.returns-clause-canonical
returns-clause-canonical c = fun_from_canonical
