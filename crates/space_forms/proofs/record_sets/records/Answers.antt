-- Proves what is asked of `records`.
use Rattle.std.proofs.Common.{◌∙◌, sym, ap, subst, length, map, take, Ok}
use Rattle.tla_value.specs.Value.{text, set, values_in, ◌>>=◌}
use Rattle.tla_value.specs.Order.{set_from, IsAscending}
use Rattle.tla_value.specs.Limits.{bounded}
use Rattle.tla_value.specs.Sets.{functions_over}
use Rattle.tla_value.proofs.OrderSets.{set_from_ascending}
use Rattle.value_forms.specs.Gives.{Tells}
use Rattle.space_forms.specs.Spaces.{beside}
use Rattle.space_forms.proofs.RecordLaws.{spaces_taken, beside_counts, cut_lengths, domain_parts, record_parts}
use Rattle.space_forms.proofs.record_sets.records.Goals as goal

pub records_on-requires-clause-ascending : goal.records_on-requires-clause-ascending
records_on-requires-clause-ascending c =
    subst IsAscending (sym (ap values_in c.as_slice-2.ensures.value ∙ c.in_ok-keys.ensures.domain)) (set_from_ascending (map text (take c.min-many.result c.args.names.now)))

pub records_on-requires-clause-parts : goal.records_on-requires-clause-parts
records_on-requires-clause-parts c =
    domain_parts (take c.min-many.result c.args.names.now) c.as_slice-2.result.now (ap values_in c.as_slice-2.ensures.value ∙ c.in_ok-keys.ensures.domain)

pub records_on-requires-clause-each : goal.records_on-requires-clause-each
records_on-requires-clause-each c =
    let many = c.min-many.result in
    let keys = c.as_slice.ensures.value ∙ c.in_ok-keys.ensures.keys in
    beside_counts c.as_slice.result.now (take many c.args.sets.now) c.as_slice-2.result.now (ap length keys ∙ cut_lengths c.args.names.now c.args.sets.now many c.min-many.ensures) (ap values_in c.as_slice-2.ensures.value ∙ c.in_ok-keys.ensures.domain ∙ ap set_from (sym keys))

pub records_on-requires-clause-sets : goal.records_on-requires-clause-sets
records_on-requires-clause-sets c = spaces_taken c.min-many.result c.args.sets.now c.in_ok-each_set.ensures.spaces

pub returns : goal.returns
returns c =
    let many = c.min-many.result in
    let domain = c.as_slice-2.result.now in
    let keys = c.as_slice.ensures.value ∙ c.in_ok-keys.ensures.keys in
    let parts = record_parts c.args.at c.args.names.now c.args.sets.now domain many c.min-many.ensures c.in_ok-each_set.ensures.sets (ap values_in c.as_slice-2.ensures.value ∙ c.in_ok-keys.ensures.domain) in
    subst (Tells c.records_on.result)
    (ap (λ ks. bounded c.args.at (set (functions_over (values_in domain) (beside ks (take many c.args.sets.now) domain)))) keys ∙ sym (ap (λ o. (o >>= λ x. Ok (set (functions_over x.0 x.1))) >>= bounded c.args.at) parts))
    c.records_on.ensures
