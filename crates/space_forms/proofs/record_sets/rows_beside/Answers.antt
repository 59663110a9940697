-- Proves what is asked of `rows_beside`.
use Rattle.std.proofs.Common.{◌-◌, arith, map}
use Rattle.std.specs.Option.{option_copied}
use Rattle.tla_value.specs.Value.{values_in}
use Rattle.space_forms.proofs.RecordLaws.{rows_next}
use Rattle.space_forms.proofs.record_sets.rows_beside.Goals as goal

pub loop-i-preserved : goal.loop-i-preserved
loop-i-preserved c = record {
  in_range = omega (arith, c.loop-i.invariant.in_range);
  rows = rows_next c.args.keys.now c.args.sets.now c.args.domain.now c.loop-i.i (c.loop-i.i - 1) c.index-domain-i.result (option_copied c.first_beside.result) (map values_in c.loop-i.rows.items) (map values_in c.in_ok-rows-2.rows.items) (omega (arith, c.loop-i-test.true)) (omega (arith, c.loop-i-test.true, c.loop-i.invariant.in_range)) c.index-domain-i.is c.first_beside.ensures c.in_ok-rows-2.ensures c.loop-i.invariant.rows;
}
