-- What the loop of `all_within` keeps.
use Rattle.std.proofs.Common.{◌≡◌, ◌≤◌, ◌+◌, ◌-◌, length, drop}
use Rattle.tla_value.specs.Value.{values_in}
use Rattle.tla_value.specs.Sets.{all_in}
use Rattle.value_forms.proofs.sets.all_within.Given as goal

abbrev pub invariant-loop-i : goal.invariant-loop-i
invariant-loop-i l = record {
  left : l.i ≤ length l.a;
  right : l.j ≤ length l.b;
  rest : all_in (values_in (drop l.i l.a)) (values_in (drop l.j l.b)) ≡ all_in (values_in l.a) (values_in l.b);
}

abbrev pub decreases-loop-i : goal.decreases-loop-i
decreases-loop-i l = (length l.a - l.i) + (length l.b - l.j)
