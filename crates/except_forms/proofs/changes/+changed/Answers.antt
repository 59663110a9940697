-- Proves what is asked of the cycle `changed`.
use Rattle.std.proofs.Common.{◌≡◌, ◌<◌, ◌∙◌, sym, ap, subst, arith, refl, drop, length, get_or, false-eqb, false, Ok, Err}
use Rattle.std.specs.Prelude.{slice_set}
use Rattle.std.specs.List.Sorted.{IsBinarySearchResult}
use Rattle.std.proofs.Math.ListN.{length-set}
use Rattle.tla_value.specs.Value.{truth, fun, values_in}
use Rattle.tla_value.specs.Order.{order}
use Rattle.tla_value.specs.OrderLaws.{order_equal}
use Rattle.tla_value.specs.Limits.{bounded}
use Rattle.tla_value.specs.ValueOf.{IsStored}
use Rattle.tla_value.proofs.ValueLists.{count-values_in}
use Rattle.tla_value.proofs.Searched.{missed, unheld}
use Rattle.value_forms.specs.Gives.{Stops, Tells}
use Rattle.value_forms.proofs.Rows.{rest_is}
use Rattle.value_forms.proofs.StopLaws.{tells_err}
use Rattle.except_forms.specs.Changes.{reached_change}
use Rattle.except_forms.proofs.ChangeLaws.{first_of_path, change_blocked, change_stops, change_made, change_nowhere, value_stored, set_twice}
use Rattle.except_forms.proofs.changes.+changed.Goals as goal

pub changed_at-returns-in_err-domain : goal.changed_at-returns-in_err-domain
changed_at-returns-in_err-domain t c =
    let s = c.in_err-domain.field-0.0 in
    let some = false-eqb (length c.args.path.now) 0 c.if-is_empty.ensures in
    tells_err c.from_residual.result s (reached_change c.args.at c.args.path.now c.args.v c.args.old) c.from_residual.ensures (change_blocked c.args.at c.args.path.now c.args.v c.args.old s (omega (arith, some)) c.in_err-domain.ensures.parts)

pub changed_in-index_mut-requires : goal.changed_in-index_mut-requires
changed_in-index_mut-requires t c =
    omega (arith, count-values_in c.args.domain.items, count-values_in c.args.values.items, c.requires.function.0.3, c.in-Ok.ensures.bound, ap length c.deref.ensures.value, c.args.values.ok)

pub changed_in-returns-in_err-new-in-Ok : goal.changed_in-returns-in_err-new-in-Ok
changed_in-returns-in_err-new-in-Ok t c =
    let path = c.args.path.now in
    let ds = c.args.domain.items in
    let rs = c.args.values.items in
    let k = c.index-path-0.result in
    let i = c.in-Ok.i in
    let r = c.replace-old.result in
    let s = c.in_err-new-in-Ok.field-0.0 in
    let f = fun (values_in ds) (values_in rs) in
    let bound : i < length ds = omega (arith, c.in-Ok.ensures.bound, ap length c.deref.ensures.value) in
    let key : get_or ds i k ≡ k = subst (λ l. get_or l i k ≡ k) c.deref.ensures.value (order_equal _ _ (c.in-Ok.ensures.ok k)) in
    let is : r ≡ get_or rs i r = subst (λ u. u ≡ get_or rs i u) (sym c.replace-old.ensures.value) c.index_mut.ensures.value in
    tells_err c.from_residual.result s (reached_change c.args.at path c.args.v f) c.from_residual.ensures
    (subst (λ l. Stops s (reached_change c.args.at l c.args.v f)) (sym (first_of_path path k c.requires.path c.index-path-0.is))
    (change_stops c.args.at k c.args.v r (drop 1 path) ds rs i k c.requires.function bound key is s (subst (λ l. Stops s (reached_change c.args.at l c.args.v r)) (rest_is path 1) c.in_err-new-in-Ok.ensures)))

pub changed_in-with_value-requires-clause-function : goal.changed_in-with_value-requires-clause-function
changed_in-with_value-requires-clause-function t c =
    let ds = c.args.domain.items in
    let rs = c.args.values.items in
    subst (λ w. IsStored (fun (values_in ds) (values_in (slice_set rs c.in-Ok.i w)))) (sym (c.replace-old.ensures.after ∙ c.truth.ensures)) (value_stored ds rs c.in-Ok.i (truth false) c.requires.function (tt, refl) (omega arith))

pub changed_in-with_value-requires-clause-place : goal.changed_in-with_value-requires-clause-place
changed_in-with_value-requires-clause-place t c =
    omega (arith, length-set c.args.values.items c.in-Ok.i c.replace-old.new.dest, count-values_in c.args.domain.items, count-values_in c.args.values.items, c.requires.function.0.3, c.in-Ok.ensures.bound, ap length c.deref.ensures.value)

pub changed_in-returns-in_ok-new-in-Ok : goal.changed_in-returns-in_ok-new-in-Ok
changed_in-returns-in_ok-new-in-Ok t c =
    let path = c.args.path.now in
    let ds = c.args.domain.items in
    let rs = c.args.values.items in
    let k = c.index-path-0.result in
    let i = c.in-Ok.i in
    let r = c.replace-old.result in
    let new = c.in_ok-new-in-Ok.new in
    let f = fun (values_in ds) (values_in rs) in
    let bound : i < length ds = omega (arith, c.in-Ok.ensures.bound, ap length c.deref.ensures.value) in
    let key : get_or ds i k ≡ k = subst (λ l. get_or l i k ≡ k) c.deref.ensures.value (order_equal _ _ (c.in-Ok.ensures.ok k)) in
    let is : r ≡ get_or rs i r = subst (λ u. u ≡ get_or rs i u) (sym c.replace-old.ensures.value) c.index_mut.ensures.value in
    let made : reached_change c.args.at (drop 1 path) c.args.v r ≡ Ok new = subst (λ l. reached_change c.args.at l c.args.v r ≡ Ok new) (rest_is path 1) c.in_ok-new-in-Ok.ensures in
    subst (Tells c.with_value.result)
    (ap (λ l. bounded c.args.at (fun (values_in ds) (values_in l))) (set_twice rs i c.replace-old.new.dest new) ∙ sym (change_made c.args.at k c.args.v r (drop 1 path) ds rs i k c.requires.function bound key is new made) ∙
    sym (ap (λ l. reached_change c.args.at l c.args.v f) (first_of_path path k c.requires.path c.index-path-0.is)))
    c.with_value.ensures

pub changed_in-returns-in-Err : goal.changed_in-returns-in-Err
changed_in-returns-in-Err t c =
    let path = c.args.path.now in
    let ds = c.args.domain.items in
    let rs = c.args.values.items in
    let k = c.index-path-0.result in
    let f = fun (values_in ds) (values_in rs) in
    let position = subst (λ l. IsBinarySearchResult (λ y. order y k) l (Err c.in-Err.field-0)) c.deref.ensures.value c.in-Err.ensures.position in
    ap (λ l. reached_change c.args.at l c.args.v f) (first_of_path path k c.requires.path c.index-path-0.is) ∙
    change_nowhere c.args.at k c.args.v (drop 1 path) (values_in ds) (values_in rs) c.requires.function (unheld k ds (missed k ds c.in-Err.field-0 c.requires.function.0.0 position)) ∙ ap Ok (sym c.whole.ensures)
