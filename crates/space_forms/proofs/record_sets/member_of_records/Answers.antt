-- Proves what is asked of `member_of_records`.
use Rattle.std.proofs.Common.{◌∙◌, sym, ap, length, take, Ok}
use Rattle.tla_value.specs.Value.{values_in, ◌>>=◌}
use Rattle.tla_value.specs.Order.{set_from}
use Rattle.tla_value.specs.Sets.{is_function_over}
use Rattle.space_forms.specs.Spaces.{beside}
use Rattle.space_forms.proofs.RecordLaws.{beside_counts, cut_lengths, record_parts}
use Rattle.space_forms.proofs.record_sets.member_of_records.Goals as goal

pub is_record-requires : goal.is_record-requires
is_record-requires c =
    let many = c.min-many.result in
    let keys = c.as_slice.ensures.value ∙ c.in_ok-keys.ensures.keys in
    beside_counts c.as_slice.result.now (take many c.args.sets.now) c.as_slice-2.result.now (ap length keys ∙ cut_lengths c.args.names.now c.args.sets.now many c.min-many.ensures) (ap values_in c.as_slice-2.ensures.value ∙ c.in_ok-keys.ensures.domain ∙ ap set_from (sym keys))

pub returns : goal.returns
returns c =
    let many = c.min-many.result in
    let domain = c.as_slice-2.result.now in
    let keys = c.as_slice.ensures.value ∙ c.in_ok-keys.ensures.keys in
    let parts = record_parts c.args.at c.args.names.now c.args.sets.now domain many c.min-many.ensures c.in_ok-each_set.ensures.sets (ap values_in c.as_slice-2.ensures.value ∙ c.in_ok-keys.ensures.domain) in
    ap (λ o. o >>= λ x. Ok (is_function_over c.args.v.now x.0 x.1)) parts ∙ ap (λ ks. Ok (is_function_over c.args.v.now (values_in domain) (beside ks (take many c.args.sets.now) domain))) (sym keys) ∙ ap Ok (sym c.is_record.ensures)
