-- What the loop of `first_beside` keeps.
use Rattle.std.proofs.Common.{◌≡◌, drop}
use Rattle.tla_value.specs.Value.{values_in}
use Rattle.tla_value.specs.Order.{found_at}
use Rattle.function_forms.proofs.records.first_beside.Given as goal

abbrev pub invariant-loop-i : goal.invariant-loop-i
invariant-loop-i l =
    found_at (values_in (drop l.i l.keys)) (values_in (drop l.i l.values)) l.d ≡ found_at (values_in l.keys) (values_in l.values) l.d
