-- Proves what is asked of `each_set`.
use Rattle.space_forms.proofs.RecordLaws.{leads_start, leads_next}
use Rattle.space_forms.proofs.record_sets.each_set.Goals as goal

pub loop-v-init : goal.loop-v-init
loop-v-init c = leads_start c.args.at c.args.values.now

pub loop-v-preserved : goal.loop-v-preserved
loop-v-preserved c =
    leads_next c.args.at c.args.values.now c.in_ok-_members._members.now c.loop-v.v-index c.v-item.result c.loop-v-test.true c.v-item.is c.in_ok-_members.ensures.members c.in_ok-_members.ensures.stored c.loop-v.invariant
