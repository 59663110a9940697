-- What the loop of `values_beside` keeps.
use Rattle.std.proofs.Common.{◌≡◌, drop}
use Rattle.tla_value.specs.Value.{values_in}
use Rattle.tla_value.specs.Order.{pairs_of, values_at}
use Rattle.value_forms.specs.Parts.{follow}
use Rattle.function_forms.proofs.records.values_beside.Given as goal

abbrev pub invariant-loop-d : goal.invariant-loop-d
invariant-loop-d l =
    let ps = pairs_of (values_in l.keys) (values_in l.values) in
    follow (values_in l.all.items) (values_at ps (values_in (drop l.d-index l.domain))) ≡ values_at ps (values_in l.domain)
