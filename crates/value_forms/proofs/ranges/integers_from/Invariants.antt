-- What the loop of `integers_from` keeps.
use Rattle.std.proofs.Common.{◌≡◌}
use Rattle.tla_value.specs.Value.{values_in}
use Rattle.tla_value.specs.Sets.{integers}
use Rattle.value_forms.proofs.ranges.integers_from.Given as goal

abbrev pub invariant-loop-i : goal.invariant-loop-i
invariant-loop-i l = values_in l.all.items ≡ integers l.i l.m
