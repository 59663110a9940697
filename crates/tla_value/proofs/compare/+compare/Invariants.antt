-- What the loop of `compare` keeps.
use Rattle.std.proofs.Common.{◌≡◌, drop, ◌≤◌, length}
use Rattle.tla_value.specs.Value.{values_in}
use Rattle.tla_value.specs.Order.{orders}
use Rattle.tla_value.proofs.compare.+compare.Given as goal

abbrev pub invariant-compare_all-loop-i : goal.invariant-compare_all-loop-i
invariant-compare_all-loop-i l =
    (l.i ≤ length l.b) × (orders (values_in l.a) (values_in l.b) ≡ orders (values_in (drop l.i l.a)) (values_in (drop l.i l.b)))
