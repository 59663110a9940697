-- What the loop of `each_among` keeps.
use Rattle.std.proofs.Common.{◌≡◌, drop}
use Rattle.tla_value.specs.Value.{values_in}
use Rattle.tla_value.specs.Standard.{each_in}
use Rattle.function_forms.proofs.sequences.each_among.Given as goal

abbrev pub invariant-loop-v : goal.invariant-loop-v
invariant-loop-v l = each_in (drop l.v-index l.values) (values_in l.members) ≡ each_in l.values (values_in l.members)
