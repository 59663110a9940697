-- What the loop of `is_ascending` keeps.
use Rattle.std.proofs.Common.{◌≤◌, ◌-◌, drop, length}
use Rattle.tla_value.specs.Value.{values_in}
use Rattle.tla_value.specs.Order.{IsAscending}
use Rattle.eval_visits.proofs.keys.is_ascending.Given as goal

abbrev pub invariant-loop-i : goal.invariant-loop-i
invariant-loop-i l = (l.i ≤ length l.values) × IsAscending (values_in (drop (l.i - 1) l.values))

abbrev pub decreases-loop-i : goal.decreases-loop-i
decreases-loop-i l = l.i
