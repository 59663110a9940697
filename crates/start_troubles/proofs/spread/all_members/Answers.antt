-- Proves that a value that is no member decides, and otherwise the rest.
use Rattle.std.proofs.Common.{sym, ◌∙◌, arith}
use Rattle.tla_value.specs.Value.{values_in}
use Rattle.start_troubles.proofs.MemberLaws.{holds_next, holds_not, holds_done}
use Rattle.start_troubles.proofs.spread.all_members.Goals as goal

pub returns-then-not-has : goal.returns-then-not-has
returns-then-not-has c = holds_not c.args.values.now (values_in c.args.members.now) c.loop-v.v-index c.v-item.result c.loop-v-test.true c.v-item.is (sym c.has.ensures ∙ c.if-not-has.true) c.loop-v.invariant

pub loop-v-preserved : goal.loop-v-preserved
loop-v-preserved c = holds_next c.args.values.now (values_in c.args.members.now) c.loop-v.v-index c.v-item.result c.loop-v-test.true c.v-item.is (sym c.has.ensures ∙ c.if-not-has.false) c.loop-v.invariant

pub returns : goal.returns
returns c = holds_done c.args.values.now (values_in c.args.members.now) c.loop-v.v-index (omega arith) c.loop-v.invariant
