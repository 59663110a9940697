-- Proves what is asked of `value_at`.
use Rattle.std.proofs.Common.{◌∙◌, sym, ap, arith, Some}
use Rattle.tla_value.specs.OrderLaws.{order_equal}
use Rattle.tla_value.proofs.ValueLists.{count-values_in}
use Rattle.tla_value.proofs.Searched.{found_there, unfound, missed}
use Rattle.function_forms.proofs.functions.value_at.Goals as goal

pub returns-in-Ok : goal.returns-in-Ok
returns-in-Ok c =
    ap Some c.index-values-i.is ∙ sym (found_there c.args.a.now c.args.domain.now c.args.values.now c.in-Ok.i c.args.a.now c.index-values-i.result c.requires.ascending (omega (arith, count-values_in c.args.domain.now, count-values_in c.args.values.now, c.requires.each)) c.in-Ok.ensures.bound (order_equal _ _ (c.in-Ok.ensures.ok c.args.a.now)))

pub returns-in-Err : goal.returns-in-Err
returns-in-Err c =
    sym (unfound c.args.a.now c.args.domain.now c.args.values.now (missed c.args.a.now c.args.domain.now c.in-Err.field-0 c.requires.ascending c.in-Err.ensures.position))

pub bounds-values-i : goal.bounds-values-i
bounds-values-i c =
    omega (arith, count-values_in c.args.domain.now, count-values_in c.args.values.now, c.requires.each, c.in-Ok.ensures.bound)
