-- Proves what is asked of `many_beside`.
use Rattle.std.proofs.Common.{◌-◌, arith}
use Rattle.std.specs.Option.{option_copied}
use Rattle.space_forms.proofs.RecordLaws.{many_next}
use Rattle.space_forms.proofs.record_sets.many_beside.Goals as goal

pub loop-i-preserved : goal.loop-i-preserved
loop-i-preserved c = record {
  in_range = omega (arith, c.loop-i.invariant.in_range);
  many = many_next c.args.keys.now c.args.sets.now c.args.domain.now c.loop-i.i (c.loop-i.i - 1) c.index-domain-i.result (option_copied c.first_beside.result) c.loop-i.many c.times_members-many.result (omega (arith, c.loop-i-test.true)) (omega (arith, c.loop-i-test.true, c.loop-i.invariant.in_range)) c.index-domain-i.is c.first_beside.ensures c.times_members-many.ensures c.loop-i.invariant.many;
}
