-- Proves that no name has two numbers.
use Rattle.std.proofs.Common.{subst}
use Rattle.name_bits.specs.NamesIn.{AllApart}
use Rattle.name_bits.proofs.OrderLaws.{all_apart}
use Rattle.name_bits.proofs.order.Order.apart.Goals as goal

pub returns : goal.returns
returns c = subst AllApart c.self.view_is (all_apart c.self.inside.names.keys c.len-count.ensures.unique)
