-- What the loop of `put` keeps.
use Rattle.std.proofs.Common.{◌≡◌, drop, take}
use Rattle.tla_value.specs.Value.{values_in}
use Rattle.tla_value.specs.Order.{inserted}
use Rattle.tla_value.proofs.ValueLists.{follow}
use Rattle.tla_value.proofs.compare.put.Given as goal

abbrev pub invariant-loop-i : goal.invariant-loop-i
invariant-loop-i l =
    (l.v ≡ l.fn.v) × (l.values.items ≡ l.fn.values.items) × (follow (values_in (take l.i l.values.items)) (inserted l.v (values_in (drop l.i l.values.items))) ≡ inserted l.fn.v (values_in l.fn.values.items))
