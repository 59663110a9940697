-- Proves what is asked of `whole`.
use Rattle.std.proofs.Common.{◌≡◌, ◌∙◌, sym, ap, subst, min, take, arith, length, Ok}
use Rattle.tla_value.specs.Value.{set}
use Rattle.tla_value.specs.Order.{set_from, fun_from}
use Rattle.tla_value.specs.Limits.{bounded}
use Rattle.value_forms.specs.Gives.{Tells, Stops}
use Rattle.value_forms.proofs.StopLaws.{tells_err}
use Rattle.eval_visits.specs.Visits.{bounded_keys, whole as whole_value}
use Rattle.eval_visits.specs.GatheredOf.{gathered_of}
use Rattle.eval_visits.proofs.KeyLemmas.{keys_are, set_stops, table_stops, table_is}
use Rattle.eval_visits.proofs.visits.whole.Goals as goal

pub returns-in_err-members-in-Rows : goal.returns-in_err-members-in-Rows
returns-in_err-members-in-Rows c =
    let at = c.args.place in let ks = c.in-Rows.rows.items in let s = c.in_err-members-in-Rows.field-0.0 in
    subst (λ x. Tells c.from_residual.result (bounded at (whole_value (gathered_of x)))) (sym c.in-Rows.is)
    (tells_err c.from_residual.result s _ c.from_residual.ensures (set_stops at ks s (subst (λ l. Stops s (bounded_keys at l)) c.deref.ensures.value c.in_err-members-in-Rows.ensures)))

pub returns-in_err-set-in-Rows : goal.returns-in_err-set-in-Rows
returns-in_err-set-in-Rows c =
    let at = c.args.place in let ks = c.in-Rows.rows.items in let s = c.in_err-set-in-Rows.field-0.0 in let ms = c.in_ok-members-in-Rows.members.items in
    let all = keys_are at ks ms (subst (λ l. bounded_keys at l ≡ Ok ms) c.deref.ensures.value c.in_ok-members-in-Rows.ensures) in
    subst (λ x. Tells c.from_residual-in_err-set-in-Rows.result (bounded at (whole_value (gathered_of x)))) (sym c.in-Rows.is)
    (tells_err c.from_residual-in_err-set-in-Rows.result s _ c.from_residual-in_err-set-in-Rows.ensures (subst (λ l. Stops s (bounded at (set (set_from l)))) all c.in_err-set-in-Rows.ensures))

pub returns-in_ok-set-in-Rows : goal.returns-in_ok-set-in-Rows
returns-in_ok-set-in-Rows c =
    let at = c.args.place in let ks = c.in-Rows.rows.items in let ms = c.in_ok-members-in-Rows.members.items in
    let all = keys_are at ks ms (subst (λ l. bounded_keys at l ≡ Ok ms) c.deref.ensures.value c.in_ok-members-in-Rows.ensures) in
    ap (λ x. bounded at (whole_value (gathered_of x))) c.in-Rows.is ∙ ap (λ l. bounded at (set (set_from l))) (sym all) ∙ c.in_ok-set-in-Rows.ensures ∙ ap (λ v. Ok v) (sym c.own-in-Rows.ensures)

pub returns-in_err-arguments-in-Table : goal.returns-in_err-arguments-in-Table
returns-in_err-arguments-in-Table c =
    let at = c.args.place in let ks = c.in-Table.rows.items in let vs = c.in-Table.values.items in let n = c.min-many.result in let s = c.in_err-arguments-in-Table.field-0.0 in
    let e : n ≡ min (length ks) (length vs) = omega (arith, c.min-many.ensures, c.len.ensures, c.len-in-Table.ensures) in
    subst (λ x. Tells c.from_residual-in_err-arguments-in-Table.result (bounded at (whole_value (gathered_of x)))) (sym c.in-Table.is)
    (tells_err c.from_residual-in_err-arguments-in-Table.result s _ c.from_residual-in_err-arguments-in-Table.ensures (table_stops at ks vs n s e (subst (λ l. Stops s (bounded_keys at (take n l))) c.deref-in-Table.ensures.value c.in_err-arguments-in-Table.ensures)))

pub returns-in_err-function-in-Table : goal.returns-in_err-function-in-Table
returns-in_err-function-in-Table c =
    let at = c.args.place in let ks = c.in-Table.rows.items in let vs = c.in-Table.values.items in let n = c.min-many.result in let s = c.in_err-function-in-Table.field-0.0 in
    let ms = c.in_ok-arguments-in-Table.arguments.items in
    let e : n ≡ min (length ks) (length vs) = omega (arith, c.min-many.ensures, c.len.ensures, c.len-in-Table.ensures) in
    let all = keys_are at (take n ks) ms (subst (λ l. bounded_keys at (take n l) ≡ Ok ms) c.deref-in-Table.ensures.value c.in_ok-arguments-in-Table.ensures) in
    subst (λ x. Tells c.from_residual-in_err-function-in-Table.result (bounded at (whole_value (gathered_of x)))) (sym c.in-Table.is)
    (tells_err c.from_residual-in_err-function-in-Table.result s _ c.from_residual-in_err-function-in-Table.ensures (subst (λ ps. Stops s (bounded at (fun_from ps))) (table_is ks vs ms n e all) c.in_err-function-in-Table.ensures))

pub returns-in_ok-function-in-Table : goal.returns-in_ok-function-in-Table
returns-in_ok-function-in-Table c =
    let at = c.args.place in let ks = c.in-Table.rows.items in let vs = c.in-Table.values.items in let n = c.min-many.result in
    let ms = c.in_ok-arguments-in-Table.arguments.items in
    let e : n ≡ min (length ks) (length vs) = omega (arith, c.min-many.ensures, c.len.ensures, c.len-in-Table.ensures) in
    let all = keys_are at (take n ks) ms (subst (λ l. bounded_keys at (take n l) ≡ Ok ms) c.deref-in-Table.ensures.value c.in_ok-arguments-in-Table.ensures) in
    ap (λ x. bounded at (whole_value (gathered_of x))) c.in-Table.is ∙ ap (λ ps. bounded at (fun_from ps)) (sym (table_is ks vs ms n e all)) ∙ c.in_ok-function-in-Table.ensures ∙ ap (λ v. Ok v) (sym c.own-in-Table.ensures)
