-- Proves what is asked of `function_from`.
use Rattle.std.proofs.Common.{◌∙◌, sym, ap, subst}
use Rattle.tla_value.specs.Value.{values_in, fun}
use Rattle.tla_value.specs.Order.{count, set_from, pairs_of, values_at, IsAscending}
use Rattle.tla_value.specs.Limits.{bounded}
use Rattle.tla_value.proofs.OrderSets.{set_from_ascending}
use Rattle.value_forms.specs.Gives.{Tells}
use Rattle.function_forms.proofs.FunctionLaws.{keys_domain, pair_counts}
use Rattle.function_forms.proofs.records.function_from.Goals as goal

pub function-requires-clause-ascending : goal.function-requires-clause-ascending
function-requires-clause-ascending c = subst IsAscending (sym c.in_ok-domain.ensures) (set_from_ascending c.in_ok-copies.field-0.items)

pub function-requires-clause-each : goal.function-requires-clause-each
function-requires-clause-each c =
    let ps = pairs_of (values_in c.args.keys.now) (values_in c.args.values.now) in
    let domain = c.in_ok-domain.ensures ∙ ap set_from c.in_ok-copies.ensures ∙ sym (keys_domain c.args.keys.now c.args.values.now c.requires) in
    let values = c.in_ok-results.ensures ∙ ap (λ l. values_at ps (values_in l)) c.deref.ensures.value ∙ ap (values_at ps) domain in
    ap count domain ∙ pair_counts ps ∙ ap count (sym values)

pub returns : goal.returns
returns c =
    let ps = pairs_of (values_in c.args.keys.now) (values_in c.args.values.now) in
    let domain = c.in_ok-domain.ensures ∙ ap set_from c.in_ok-copies.ensures ∙ sym (keys_domain c.args.keys.now c.args.values.now c.requires) in
    let values = c.in_ok-results.ensures ∙ ap (λ l. values_at ps (values_in l)) c.deref.ensures.value ∙ ap (values_at ps) domain in
    subst (Tells c.function.result) (ap (bounded c.args.at) (λ i. fun (domain i) (values i))) c.function.ensures
