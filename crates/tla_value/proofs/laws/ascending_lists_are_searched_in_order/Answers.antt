-- Proves the law `ascending_lists_are_searched_in_order`.
use Rattle.tla_value.proofs.InOrder.{holds_in_order_is, found_in_order_is}
use Rattle.tla_value.proofs.laws.ascending_lists_are_searched_in_order.Goals as goal

pub returns-clause-member : goal.returns-clause-member
returns-clause-member c = holds_in_order_is

pub returns-clause-value : goal.returns-clause-value
returns-clause-value c = found_in_order_is
