-- What the loop of `each_among` keeps.
use Rattle.std.proofs.Common.{◌≡◌, drop}
use Rattle.tla_value.specs.Value.{values_in}
use Rattle.space_forms.proofs.MemberLaws.{chosen}
use Rattle.space_forms.proofs.members.each_among.Given as goal

abbrev pub invariant-loop-v : goal.invariant-loop-v
invariant-loop-v l = chosen (drop l.v-index l.values) (values_in l.results) ≡ chosen l.values (values_in l.results)
