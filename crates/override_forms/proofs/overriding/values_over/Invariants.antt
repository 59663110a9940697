-- What the loop of `values_over` keeps.
use Rattle.std.proofs.Common.{◌≡◌, ◌++◌, drop}
use Rattle.tla_value.specs.Value.{values_in}
use Rattle.tla_value.specs.Order.{pairs_of, values_at}
use Rattle.value_forms.specs.Parts.{follow}
use Rattle.override_forms.proofs.overriding.values_over.Given as goal

abbrev pub invariant-loop-d : goal.invariant-loop-d
invariant-loop-d l =
    let ps = pairs_of (values_in l.ds) (values_in l.rs) ++ pairs_of (values_in l.es) (values_in l.qs) in
    follow (values_in l.all.items) (values_at ps (values_in (drop l.d-index l.domain))) ≡ values_at ps (values_in l.domain)
