-- What the loop of `each_chosen` keeps.
use Rattle.std.proofs.Common.{◌≡◌, drop}
use Rattle.tla_value.specs.Value.{values_in}
use Rattle.tla_value.specs.Sets.{all_chosen}
use Rattle.space_forms.specs.Spaces.{beside}
use Rattle.space_forms.proofs.record_sets.each_chosen.Given as goal

abbrev pub invariant-loop-i : goal.invariant-loop-i
invariant-loop-i l =
    all_chosen (values_in (drop l.i l.values)) (beside l.keys l.sets (drop l.i l.domain)) ≡ all_chosen (values_in l.values) (beside l.keys l.sets l.domain)
