-- Proves that a variable without a first value is found.
use Rattle.std.proofs.Common.{List, sym, ap, ◌∙◌}
use Rattle.pcal_tree.specs.declared.algorithm.Declaration.{Declaration}
use Rattle.pcal_tree.specs.InMemory.{declarations_at}
use Rattle.module_formulas.specs.Unset.{some_unset, process_declarations}
use Rattle.module_formulas.proofs.UnsetLaws.{all_set, some_found, none_left}
use Rattle.module_formulas.proofs.model_values.in_processes.Goals as goal

pub returns-then-any_unset : goal.returns-then-any_unset
returns-then-any_unset c = λ ts.
    some_found (process_declarations ts) c.args.list.now c.loop-one.one-index c.one-item.result c.one-item.is c.loop-one-test.true _ (sym c.if-any_unset.true ∙ c.any_unset.ensures ts ∙ ap (λ (ds : List Declaration). some_unset (declarations_at ts ds)) c.deref.ensures.value) (c.loop-one.invariant ts)

pub loop-one-preserved : goal.loop-one-preserved
loop-one-preserved c = λ ts.
    all_set (process_declarations ts) c.args.list.now c.loop-one.one-index c.one-item.result c.one-item.is c.loop-one-test.true _ (sym c.if-any_unset.false ∙ c.any_unset.ensures ts ∙ ap (λ (ds : List Declaration). some_unset (declarations_at ts ds)) c.deref.ensures.value) (c.loop-one.invariant ts)

pub returns : goal.returns
returns c = λ ts. none_left (process_declarations ts) c.args.list.now c.loop-one.one-index c.loop-one-test.false _ (c.loop-one.invariant ts)
