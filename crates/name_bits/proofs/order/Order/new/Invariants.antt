-- What the loop keeps: the names that were passed are in, and in their order where no name stands twice.
use Rattle.std.proofs.Common.{◌≡◌, take}
use Rattle.tla_token.specs.Signs.{is_among}
use Rattle.tla_tree.specs.Tree.{Word}
use Rattle.name_bits.specs.NamesIn.{AllApart}
use Rattle.name_bits.proofs.order.Order.new.Given as goal

abbrev pub invariant-loop-name : goal.invariant-loop-name
invariant-loop-name l =
    (AllApart l.names → l.set.keys ≡ take l.name-index l.names) × ((x : Word) → is_among l.set.keys x ≡ is_among (take l.name-index l.names) x)
