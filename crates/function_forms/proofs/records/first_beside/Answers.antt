-- Proves what is asked of `first_beside`.
use Rattle.std.proofs.Common.{◌∙◌, sym, ap, arith}
use Rattle.std.specs.Ordering.{is_eq}
use Rattle.tla_value.specs.Order.{same}
use Rattle.tla_value.proofs.Lookups.{found_no_value, found_later}
use Rattle.function_forms.proofs.records.first_beside.Goals as goal

pub returns-then-i-values : goal.returns-then-i-values
returns-then-i-values c =
    sym (found_no_value c.args.keys.now c.args.values.now c.loop-i.i c.args.d.now (omega arith)) ∙ c.loop-i.invariant

pub loop-i-preserved : goal.loop-i-preserved
loop-i-preserved c =
    let v = c.args.d.now in
    let k = c.index-keys-i.result in
    let e = ap (same v) (sym c.index-keys-i.is) ∙ ap is_eq (sym c.compare.ensures) ∙ sym c.is_eq.ensures ∙ c.if-is_eq.false in
    sym (found_later c.args.keys.now c.args.values.now c.loop-i.i v k k (omega arith) (omega arith) e) ∙ c.loop-i.invariant
