-- What the loop of `same_rows` keeps.
use Rattle.std.proofs.Common.{◌≡◌, drop}
use Rattle.std.specs.Ordering.{is_eq}
use Rattle.tla_value.specs.Value.{values_in}
use Rattle.tla_value.specs.Order.{orders}
use Rattle.space_forms.proofs.members.same_rows.Given as goal

abbrev pub invariant-loop-i : goal.invariant-loop-i
invariant-loop-i l =
    is_eq (orders (values_in (drop l.i l.a)) (values_in (drop l.i l.b))) ≡ is_eq (orders (values_in l.a) (values_in l.b))
