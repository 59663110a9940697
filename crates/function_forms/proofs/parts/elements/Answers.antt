-- Proves what is asked of `elements`.
use Rattle.std.proofs.Common.{◌≡◌, ◌∙◌, ◌∷◌, ◌++◌, [], ap, subst, arith, Ok}
use Rattle.std.proofs.lemmas.Int.{to_z-of_z}
use Rattle.tla_value.specs.Value.{in_order}
use Rattle.tla_value.specs.Limits.{bounded}
use Rattle.tla_value.specs.Standard.{element}
use Rattle.value_forms.specs.Gives.{Stops}
use Rattle.value_forms.proofs.StopLaws.{err_is, behind_none, order_next, order_stop, order_end}
use Rattle.function_forms.proofs.parts.elements.Goals as goal

pub loop-i-init : goal.loop-i-init
loop-i-init c = behind_none c.new-all.result.items _ c.new-all.ensures.items

pub returns-in_err-v : goal.returns-in_err-v
returns-in_err-v c =
    let s = c.in_err-v.field-0.0 in
    err_is (λ r. r.items) c.from_residual.result s _ c.from_residual.ensures
    (subst (λ q. Stops s (in_order (element bounded c.args.at c.args.s.now q) c.args.places.now)) (to_z-of_z _ c.args.m c.ranges.m)
    (order_stop _ c.args.places.now c.loop-i.all.items c.loop-i.i-index c.i-item.result s _ c.loop-i-test.true c.i-item.is c.in_err-v.ensures c.loop-i.invariant))

pub loop-i-preserved : goal.loop-i-preserved
loop-i-preserved c =
    let items = c.in_ok-push.ensures.items ∙ ap (λ v. c.loop-i.all.items ++ v ∷ []) c.in_ok-copied.ensures in
    order_next _ c.args.places.now c.loop-i.all.items c.push.new.self.items c.loop-i.i-index c.i-item.result c.in_ok-v.v.now _ c.loop-i-test.true c.i-item.is c.in_ok-v.ensures items c.loop-i.invariant

pub returns : goal.returns
returns c =
    subst (λ q. in_order (element bounded c.args.at c.args.s.now q) c.args.places.now ≡ Ok c.loop-i.all.items) (to_z-of_z _ c.args.m c.ranges.m)
    (order_end _ c.args.places.now c.loop-i.all.items c.loop-i.i-index _ (omega arith) c.loop-i.invariant)
