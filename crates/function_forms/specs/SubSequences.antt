-- A part of a sequence, from the last step of its making to the first but one.
use Rattle.std.specs.Prelude.{ℤ, pos, ◌+ℤ◌}
use Rattle.tla_token.specs.declared.place.Place.{Place}
use Rattle.tla_value.specs.Value.{Value, int, set, fun, Outcome, values_in, ◌>>=◌, in_order}
use Rattle.tla_value.specs.Order.{listed}
use Rattle.tla_value.specs.Limits.{bounded}
use Rattle.tla_value.specs.Stops.{members_at}
use Rattle.tla_value.specs.Sets.{range}
use Rattle.tla_value.specs.Standard.{element}

abbrev pub part_over : Place → Value → ℤ → Value → Outcome Value
part_over at s m d = do
  is ← members_at at d
  vs ← in_order (element bounded at s m) (listed is)
  bounded at (fun is (values_in vs))

abbrev pub part_counted : Place → Value → ℤ → ℤ → Outcome Value
part_counted at s m k = do
  d ← bounded at (set (range (pos 1) k))
  part_over at s m d

abbrev pub part_after : Place → Value → ℤ → ℤ → Outcome Value
part_after at s m k = do
  _ ← bounded at (int (k +ℤ pos 1))
  part_counted at s m (k +ℤ pos 1)
