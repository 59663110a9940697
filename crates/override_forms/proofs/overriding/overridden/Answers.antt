-- Proves what is asked of `overridden`.
use Rattle.std.proofs.Common.{◌∙◌, ◌++◌, sym, ap, subst, Ok}
use Rattle.tla_value.specs.Value.{values_in, fun, ◌>>=◌}
use Rattle.tla_value.specs.Order.{count, pairs_of, values_at, fun_from, listed, IsAscending}
use Rattle.tla_value.specs.Limits.{bounded}
use Rattle.tla_value.proofs.OrderSets.{set_from_ascending}
use Rattle.value_forms.specs.Gives.{Tells}
use Rattle.function_forms.proofs.FunctionLaws.{two_counts, two_joined}
use Rattle.override_forms.proofs.overriding.overridden.Goals as goal

pub function-requires-clause-ascending : goal.function-requires-clause-ascending
function-requires-clause-ascending c =
    subst IsAscending (sym c.in_ok-domain.ensures) (set_from_ascending (listed (values_in c.in_ok-ds.ds.now) ++ listed (values_in c.in_ok-es.es.now)))

pub function-requires-clause-each : goal.function-requires-clause-each
function-requires-clause-each c =
    let ds = values_in c.in_ok-ds.ds.now in
    let rs = values_in c.in_ok-ds.rs.now in
    let es = values_in c.in_ok-es.es.now in
    let qs = values_in c.in_ok-es.qs.now in
    let ps = pairs_of ds rs ++ pairs_of es qs in
    let values = c.in_ok-values.ensures ∙ ap (λ l. values_at ps (values_in l)) c.deref.ensures.value ∙ ap (values_at ps) c.in_ok-domain.ensures in
    ap count c.in_ok-domain.ensures ∙ two_counts ds rs es qs c.in_ok-ds.ensures.stored c.in_ok-es.ensures.stored ∙ ap count (sym values)

pub returns : goal.returns
returns c =
    let ds = values_in c.in_ok-ds.ds.now in
    let rs = values_in c.in_ok-ds.rs.now in
    let es = values_in c.in_ok-es.es.now in
    let qs = values_in c.in_ok-es.qs.now in
    let ps = pairs_of ds rs ++ pairs_of es qs in
    let values = c.in_ok-values.ensures ∙ ap (λ l. values_at ps (values_in l)) c.deref.ensures.value ∙ ap (values_at ps) c.in_ok-domain.ensures in
    subst (Tells c.function.result)
    (ap (bounded c.args.at) ((λ i. fun (c.in_ok-domain.ensures i) (values i)) ∙ two_joined ds rs es qs c.in_ok-ds.ensures.stored c.in_ok-es.ensures.stored) ∙
    sym (λ i. (c.in_ok-ds.ensures.parts i >>= λ x. (c.in_ok-es.ensures.parts i >>= λ y. Ok (fun_from (pairs_of x.0 x.1 ++ pairs_of y.0 y.1)))) >>= bounded c.args.at))
    c.function.ensures
