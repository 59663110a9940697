-- Proves that a member more is taken, and that a pause is the whole's.
use Rattle.std.proofs.Common.{drop}
use Rattle.tla_value.specs.Value.{values_in}
use Rattle.step_meaning.proofs.ChoiceLaws.{each_next, each_pauses}
use Rattle.step_meaning.proofs.FlowLaws.{paused}
use Rattle.step_meaning.proofs.spread.each_member.Goals as goal

pub returns-in_err-one_of : goal.returns-in_err-one_of
returns-in_err-one_of c =
    paused _ c.from_residual.result c.in_err-one_of.field-0.0 _ _ c.from_residual.ensures
    (each_pauses c.args.place (values_in c.args.members.now) c.args.ids.now c.loop-one._one-index c._one-item.result c.loop-one.all.items (drop c.loop-one.used c.args.choices.now) (drop c.args.used.now c.args.choices.now) c.in_err-one_of.field-0.0
    c.loop-one-test.true c._one-item.is c.in_err-one_of.ensures c.loop-one.invariant)

pub loop-one-preserved : goal.loop-one-preserved
loop-one-preserved c =
    each_next c.args.place (values_in c.args.members.now) c.args.ids.now c.loop-one._one-index c._one-item.result c.in_ok-one_of.field-0 c.loop-one.all.items c.push.new.self.items (drop c.loop-one.used c.args.choices.now) (drop c.one_of.new.used c.args.choices.now)
    (drop c.args.used.now c.args.choices.now) c.loop-one-test.true c._one-item.is c.in_ok-one_of.ensures c.in_ok-push.ensures.items c.loop-one.invariant
