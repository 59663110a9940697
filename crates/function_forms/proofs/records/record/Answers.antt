-- Proves what is asked of `record`.
use Rattle.std.proofs.Common.{◌∙◌, sym, ap, subst, take}
use Rattle.tla_value.specs.Value.{values_in}
use Rattle.tla_value.specs.Order.{pairs_of, fun_from}
use Rattle.tla_value.specs.Limits.{bounded}
use Rattle.value_forms.specs.Gives.{Tells}
use Rattle.function_forms.proofs.FunctionLaws.{fields_cut}
use Rattle.function_forms.proofs.records.record.Goals as goal

pub returns : goal.returns
returns c =
    let vs = values_in (take c.min-many.result c.args.values.now) in
    subst (λ ps. Tells c.function_from.result (bounded c.args.at (fun_from ps)))
    (ap (λ l. pairs_of (values_in l) vs) (c.deref.ensures.value ∙ c.in_ok-keys.ensures) ∙ sym (fields_cut c.args.names.now c.args.values.now c.min-many.result c.min-many.ensures))
    c.function_from.ensures
