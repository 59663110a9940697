-- Proves what is asked of `each_among`.
use Rattle.std.proofs.Common.{◌∙◌, sym, ap, arith, drop, ◌+◌}
use Rattle.std.specs.Prelude.{◌&&◌}
use Rattle.tla_value.specs.Value.{values_in}
use Rattle.tla_value.specs.Standard.{each_in}
use Rattle.function_forms.proofs.SequenceLaws.{each_next, each_end}
use Rattle.function_forms.proofs.sequences.each_among.Goals as goal

pub returns-then-not-has : goal.returns-then-not-has
returns-then-not-has c =
    let ws = values_in c.args.members.now in
    let vs = c.args.values.now in
    ap (λ b. b && each_in (drop (c.loop-v.v-index + 1) vs) ws) (sym c.if-not-has.true) ∙ each_next vs ws c.loop-v.v-index c.v-item.result c.has.result _ c.loop-v-test.true c.v-item.is c.has.ensures c.loop-v.invariant

pub loop-v-preserved : goal.loop-v-preserved
loop-v-preserved c =
    let ws = values_in c.args.members.now in
    let vs = c.args.values.now in
    ap (λ b. b && each_in (drop (c.loop-v.v-index + 1) vs) ws) (sym c.if-not-has.false) ∙ each_next vs ws c.loop-v.v-index c.v-item.result c.has.result _ c.loop-v-test.true c.v-item.is c.has.ensures c.loop-v.invariant

pub returns : goal.returns
returns c = each_end c.args.values.now (values_in c.args.members.now) c.loop-v.v-index _ (omega arith) c.loop-v.invariant
