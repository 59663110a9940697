-- Proves that a variable without a first value is found.
use Rattle.std.proofs.Common.{sym, ◌∙◌}
use Rattle.module_formulas.specs.Unset.{procedure_declarations}
use Rattle.module_formulas.proofs.UnsetLaws.{all_set, some_found, none_left}
use Rattle.module_formulas.proofs.model_values.in_procedures.Goals as goal

pub returns-then-in_procedure : goal.returns-then-in_procedure
returns-then-in_procedure c = λ ts.
    some_found (procedure_declarations ts) c.args.list.now c.loop-one.one-index c.one-item.result c.one-item.is c.loop-one-test.true _ (sym c.if-in_procedure.true ∙ c.in_procedure.ensures ts) (c.loop-one.invariant ts)

pub loop-one-preserved : goal.loop-one-preserved
loop-one-preserved c = λ ts.
    all_set (procedure_declarations ts) c.args.list.now c.loop-one.one-index c.one-item.result c.one-item.is c.loop-one-test.true _ (sym c.if-in_procedure.false ∙ c.in_procedure.ensures ts) (c.loop-one.invariant ts)

pub returns : goal.returns
returns c = λ ts. none_left (procedure_declarations ts) c.args.list.now c.loop-one.one-index c.loop-one-test.false _ (c.loop-one.invariant ts)
