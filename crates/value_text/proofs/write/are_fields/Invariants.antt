-- What the loop of `are_fields` keeps: the fields that are left decide.
use Rattle.std.proofs.Common.{◌≡◌, drop}
use Rattle.std.specs.Prelude.{is_some}
use Rattle.tla_value.specs.Value.{values_in}
use Rattle.tla_value.specs.ValueText.{field_names}
use Rattle.value_text.proofs.write.are_fields.Given as goal

abbrev pub invariant-loop-v : goal.invariant-loop-v
invariant-loop-v l = is_some (field_names (values_in l.domain)) ≡ is_some (field_names (values_in (drop l.v-index l.domain)))
