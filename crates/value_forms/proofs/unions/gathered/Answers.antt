-- Proves what is asked of `gathered`.
use Rattle.std.proofs.Common.{◌∙◌, ap}
use Rattle.value_forms.proofs.StopLaws.{err_is}
use Rattle.value_forms.proofs.UnionLaws.{gather, gather_start, gather_next, gather_stop}
use Rattle.value_forms.proofs.unions.gathered.Goals as goal

pub loop-s-init : goal.loop-s-init
loop-s-init c = ap (λ l. gather c.args.at l c.args.sets.now) c.new-all.ensures.items ∙ gather_start c.args.at c.args.sets.now

pub returns-in_err-members : goal.returns-in_err-members
returns-in_err-members c =
    err_is (λ r. r.items) c.from_residual.result c.in_err-members.field-0.0 _ c.from_residual.ensures
    (gather_stop c.args.at c.args.sets.now c.loop-s.all.items c.loop-s.s-index c.s-item.result c.in_err-members.field-0.0 _ c.loop-s-test.true c.s-item.is c.in_err-members.ensures.members c.loop-s.invariant)

pub loop-s-preserved : goal.loop-s-preserved
loop-s-preserved c =
    gather_next c.args.at c.args.sets.now c.loop-s.all.items c.in_ok-members.members.now c.add_all.new.all.items c.loop-s.s-index c.s-item.result _ c.loop-s-test.true c.s-item.is c.in_ok-members.ensures.members c.in_ok-add_all.ensures c.loop-s.invariant
