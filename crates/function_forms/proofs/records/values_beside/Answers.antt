-- Proves what is asked of `values_beside`.
use Rattle.std.proofs.Common.{◌∙◌, sym, arith}
use Rattle.std.specs.Option.{option_copied}
use Rattle.tla_value.specs.Value.{values_in}
use Rattle.tla_value.specs.Order.{pairs_of}
use Rattle.function_forms.proofs.FunctionLaws.{values_next, values_end, first_is_found}
use Rattle.function_forms.proofs.records.values_beside.Goals as goal

pub loop-d-preserved : goal.loop-d-preserved
loop-d-preserved c =
    let ks = values_in c.args.keys.now in
    let vs = values_in c.args.values.now in
    values_next (pairs_of ks vs) c.args.domain.now c.loop-d.all.items c.add_found.new.all.items c.loop-d.d-index c.d-item.result (option_copied c.first_beside.result) _ c.loop-d-test.true c.d-item.is (c.first_beside.ensures ∙ sym (first_is_found ks vs c.d-item.result)) c.in_ok-add_found.ensures c.loop-d.invariant

pub returns : goal.returns
returns c =
    values_end (pairs_of (values_in c.args.keys.now) (values_in c.args.values.now)) c.args.domain.now c.loop-d.all.items c.loop-d.d-index _ (omega arith) c.loop-d.invariant
