-- Proves what is asked of `table`.
use Rattle.std.proofs.Common.{◌∙◌, ap, subst, arith, take}
use Rattle.tla_value.specs.Value.{values_in}
use Rattle.tla_value.specs.Order.{fun_from, pairs_of, IsAscending}
use Rattle.tla_value.specs.Limits.{bounded}
use Rattle.value_forms.specs.Gives.{Tells}
use Rattle.eval_visits.proofs.KeyLemmas.{same_count, ascending_table, pairs_cut}
use Rattle.eval_visits.proofs.keys.table.Goals as goal

pub function-requires-clause-each : goal.function-requires-clause-each
function-requires-clause-each c = same_count c.args.keys.items c.args.values.items (omega (arith, c.len.ensures, c.len-2.ensures, c.if-len.true))

pub returns-then-is_ascending : goal.returns-then-is_ascending
returns-then-is_ascending c =
    let ks = c.args.keys.items in let vs = c.args.values.items in
    let up = subst (λ l. IsAscending (values_in l)) c.deref.ensures.value (c.is_ascending.ensures c.if-is_ascending.true) in
    subst (Tells c.function.result) (ap (bounded c.args.at) (ascending_table ks vs up (omega (arith, c.len.ensures, c.len-2.ensures, c.if-len.true)))) c.function.ensures

pub returns : goal.returns
returns c =
    let n = c.min-many.result in
    subst (λ ps. Tells c.function_from-2.result (bounded c.args.at (fun_from ps)))
    ((λ i. pairs_of (values_in (take n (c.deref-2.ensures.value i))) (values_in (take n (c.deref-3.ensures.value i))))
    ∙ pairs_cut c.args.keys.items c.args.values.items n (omega (arith, c.min-many.ensures, c.len-3.ensures, c.len-4.ensures))) c.function_from-2.ensures
