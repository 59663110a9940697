-- Proves what is asked of `each_among`.
use Rattle.std.proofs.Common.{◌∙◌, sym, arith}
use Rattle.tla_value.specs.Value.{values_in}
use Rattle.space_forms.proofs.MemberLaws.{chosen_step, chosen_end}
use Rattle.space_forms.proofs.members.each_among.Goals as goal

pub returns-then-not-has : goal.returns-then-not-has
returns-then-not-has c =
    chosen_step c.args.values.now (values_in c.args.results.now) c.loop-v.v-index c.v-item.result _ _ c.loop-v-test.true c.v-item.is (sym c.has.ensures ∙ c.if-not-has.true) c.loop-v.invariant

pub loop-v-preserved : goal.loop-v-preserved
loop-v-preserved c =
    chosen_step c.args.values.now (values_in c.args.results.now) c.loop-v.v-index c.v-item.result _ _ c.loop-v-test.true c.v-item.is (sym c.has.ensures ∙ c.if-not-has.false) c.loop-v.invariant

pub returns : goal.returns
returns c = chosen_end c.args.values.now (values_in c.args.results.now) c.loop-v.v-index _ (omega arith) c.loop-v.invariant
