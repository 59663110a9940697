-- Proves the law `order_is_total`.
use Rattle.tla_value.specs.OrderLaws.{order_equal, order_total}
use Rattle.tla_value.proofs.laws.order_is_total.Goals as goal

pub returns-clause-total : goal.returns-clause-total
returns-clause-total c = order_total

pub returns-clause-equal : goal.returns-clause-equal
returns-clause-equal c = order_equal
