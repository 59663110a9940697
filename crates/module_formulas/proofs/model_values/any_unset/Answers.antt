-- Proves that a variable without a first value is found.
use Rattle.std.proofs.Common.{sym, ◌∙◌}
use Rattle.module_formulas.proofs.UnsetLaws.{one_set, one_unset, no_more}
use Rattle.module_formulas.proofs.model_values.any_unset.Goals as goal

pub returns-then-is_unset : goal.returns-then-is_unset
returns-then-is_unset c = λ ts.
    one_unset ts c.args.list.now c.loop-one.one-index c.one-item.result c.one-item.is c.loop-one-test.true _ (sym c.if-is_unset.true ∙ c.is_unset.ensures ts) (c.loop-one.invariant ts)

pub loop-one-preserved : goal.loop-one-preserved
loop-one-preserved c = λ ts.
    one_set ts c.args.list.now c.loop-one.one-index c.one-item.result c.one-item.is c.loop-one-test.true _ (sym c.if-is_unset.false ∙ c.is_unset.ensures ts) (c.loop-one.invariant ts)

pub returns : goal.returns
returns c = λ ts. no_more ts c.args.list.now c.loop-one.one-index c.loop-one-test.false _ (c.loop-one.invariant ts)
