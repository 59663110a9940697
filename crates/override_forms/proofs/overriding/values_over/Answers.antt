-- Proves what is asked of `values_over`.
use Rattle.std.proofs.Common.{◌++◌, arith}
use Rattle.std.specs.Option.{option_copied}
use Rattle.tla_value.specs.Value.{values_in}
use Rattle.tla_value.specs.Order.{pairs_of}
use Rattle.function_forms.proofs.FunctionLaws.{values_next, values_end}
use Rattle.override_forms.proofs.overriding.values_over.Goals as goal

pub loop-d-preserved : goal.loop-d-preserved
loop-d-preserved c =
    let ps = pairs_of (values_in c.args.ds.now) (values_in c.args.rs.now) ++ pairs_of (values_in c.args.es.now) (values_in c.args.qs.now) in
    values_next ps c.args.domain.now c.loop-d.all.items c.add_found.new.all.items c.loop-d.d-index c.d-item.result (option_copied c.first_found.result) _ c.loop-d-test.true c.d-item.is c.first_found.ensures c.in_ok-add_found.ensures c.loop-d.invariant

pub returns : goal.returns
returns c =
    let ps = pairs_of (values_in c.args.ds.now) (values_in c.args.rs.now) ++ pairs_of (values_in c.args.es.now) (values_in c.args.qs.now) in
    values_end ps c.args.domain.now c.loop-d.all.items c.loop-d.d-index _ (omega arith) c.loop-d.invariant
