-- What the loop of `seq_of` keeps.
use Rattle.std.proofs.Common.{◌≡◌, drop, length, suc}
use Rattle.tla_value.specs.Value.{values_in}
use Rattle.tla_value.specs.Order.{numbers_from}
use Rattle.tla_value.proofs.ValueLists.{follow}
use Rattle.tla_value.proofs.build.seq_of.Given as goal

abbrev pub invariant-loop-i : goal.invariant-loop-i
invariant-loop-i l =
    (follow (values_in l.numbers.items) (numbers_from (suc l.i) (drop l.i l.values.items)) ≡ numbers_from 1 l.values.items) × (length l.numbers.items ≡ l.i)
