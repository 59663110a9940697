-- Proves what is asked of `part_on`.
use Rattle.std.proofs.Common.{◌≡◌, ◌∙◌, ap, sym, subst, arith, length, Ok}
use Rattle.std.proofs.lemmas.Int.{to_z-of_z}
use Rattle.tla_value.specs.Value.{fun, values_in, in_order, ◌>>=◌}
use Rattle.tla_value.specs.Order.{listed}
use Rattle.tla_value.specs.Limits.{bounded}
use Rattle.tla_value.specs.Standard.{element}
use Rattle.tla_value.proofs.OrderFuns.{listed_values}
use Rattle.tla_value.proofs.ValueLists.{count-values_in}
use Rattle.value_forms.specs.Gives.{Stops, Tells}
use Rattle.value_forms.proofs.StopLaws.{tells_err, then_stops, then_later, order_counts}
use Rattle.function_forms.proofs.parts.part_on.Goals as goal

pub returns-in_err-values : goal.returns-in_err-values
returns-in_err-values c =
    let s = c.in_err-values.field-0.0 in
    let places = c.in_ok-places.places.now in
    let stopped = subst (λ q. Stops s (in_order (element bounded c.args.at c.args.s.now q) places)) (to_z-of_z _ c.args.m c.ranges.m) c.in_err-values.ensures in
    tells_err c.from_residual-in_err-values.result s _ c.from_residual-in_err-values.ensures
    (then_later s (values_in places) _ _ c.in_ok-places.ensures.members (then_stops s _ _ (subst (λ l. Stops s (in_order (element bounded c.args.at c.args.s.now c.args.m) l)) (sym (listed_values places)) stopped)))

pub function-requires-clause-each : goal.function-requires-clause-each
function-requires-clause-each c =
    let e : length c.in_ok-places.places.now ≡ length c.in_ok-values.values.items = order_counts _ c.in_ok-places.places.now c.in_ok-values.values.items c.in_ok-values.ensures in
    omega (arith, count-values_in c.in_ok-keys.keys.items, count-values_in c.in_ok-values.values.items, ap length c.in_ok-keys.ensures)

pub returns : goal.returns
returns c =
    let at = c.args.at in
    let places = c.in_ok-places.places.now in
    let values = c.in_ok-values.values.items in
    let go = element bounded at c.args.s.now c.args.m in
    let made = subst (λ q. in_order (element bounded at c.args.s.now q) places ≡ Ok values) (to_z-of_z _ c.args.m c.ranges.m) c.in_ok-values.ensures in
    subst (Tells c.function.result)
    (ap (λ l. bounded at (fun (values_in l) (values_in values))) c.in_ok-keys.ensures ∙
    sym (ap (λ o. o >>= λ is. (in_order go (listed is) >>= λ vs. bounded at (fun is (values_in vs)))) c.in_ok-places.ensures.members ∙
    ap (λ l. in_order go l >>= λ vs. bounded at (fun (values_in places) (values_in vs))) (listed_values places) ∙
    ap (λ o. o >>= λ vs. bounded at (fun (values_in places) (values_in vs))) made))
    c.function.ensures
