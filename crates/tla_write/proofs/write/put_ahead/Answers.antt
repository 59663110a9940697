-- Proves what is asked of `put_ahead`.
use Rattle.std.proofs.Common.{◌+◌, arith, subst, sym, take}
use Rattle.tla_write.specs.Ahead.{PutsAhead}
use Rattle.tla_write.proofs.AheadLemmas.{put_found, put_past, put_plain}
use Rattle.tla_write.proofs.write.put_ahead.Goals as goal
use Rattle.tla_write.proofs.write.put_ahead.Goals.{in-Part+in_ok-push-in-Part, in-Part+else-i-count, in_default+in_ok-push-in_default}

pub loop-item-preserved : goal.loop-item-preserved
loop-item-preserved c =
    let t = c.args.of.now in
    let plan = c.args.plan.now in
    let k = c.loop-item.item-index in
    let base = c.args.ahead.now.items in
    elim c.match-item.branch [
      | in-Part+in_ok-push-in-Part w ↦ subst (λ v. PutsAhead t (take (k + 1) plan) base v.items) (sym w.ahead-is) (put_found t plan k c.item-item.result w.in-Part.i w.in-Part.operand w.part.result base c.loop-item.ahead.items w.push.new.self.items c.item-item.is c.loop-item-test.true w.in-Part.is w.part.ensures w.in_ok-push-in-Part.ensures.items c.loop-item.invariant)
      | in-Part+else-i-count w ↦ subst (λ v. PutsAhead t (take (k + 1) plan) base v.items) (sym w.ahead-is) (put_past t plan k c.item-item.result w.in-Part.i w.in-Part.operand base c.loop-item.ahead.items c.item-item.is c.loop-item-test.true w.in-Part.is (omega (arith, w.if-i-count.false, c.len-count.ensures)) c.loop-item.invariant)
      | in_default+in_ok-push-in_default w ↦ subst (λ v. PutsAhead t (take (k + 1) plan) base v.items) (sym w.ahead-is) (put_plain t plan k c.item-item.result base c.loop-item.ahead.items w.push-in_default.new.self.items c.item-item.is c.loop-item-test.true w.in_default.not-Part w.in_ok-push-in_default.ensures.items c.loop-item.invariant)
    ]
