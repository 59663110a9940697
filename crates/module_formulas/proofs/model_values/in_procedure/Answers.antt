-- Proves that parameters and variables are looked at.
use Rattle.std.proofs.Common.{Bool, ◌||◌, List, sym, ap, ◌∙◌}
use Rattle.pcal_tree.specs.declared.algorithm.Declaration.{Declaration}
use Rattle.pcal_tree.specs.InMemory.{declarations_at}
use Rattle.module_formulas.specs.Unset.{some_unset}
use Rattle.module_formulas.proofs.UnsetLaws.{some_of_two}
use Rattle.module_formulas.proofs.model_values.in_procedure.Goals as goal

pub returns-then-any_unset : goal.returns-then-any_unset
returns-then-any_unset c = λ ts.
    let p = c.args.one.now in
    let params = declarations_at ts p.params.items in
    let variables = declarations_at ts p.variables.items in
    ap (λ (b : Bool). b || some_unset variables) (sym c.if-any_unset.true ∙ c.any_unset.ensures ts ∙ ap (λ (ds : List Declaration). some_unset (declarations_at ts ds)) c.deref.ensures.value)
    ∙ sym (some_of_two params variables)

pub returns : goal.returns
returns c = λ ts.
    let p = c.args.one.now in
    let params = declarations_at ts p.params.items in
    let variables = declarations_at ts p.variables.items in
    c.any_unset-2.ensures ts ∙ ap (λ (ds : List Declaration). some_unset (declarations_at ts ds)) c.deref-2.ensures.value
    ∙ ap (λ (b : Bool). b || some_unset variables) (sym c.if-any_unset.false ∙ c.any_unset.ensures ts ∙ ap (λ (ds : List Declaration). some_unset (declarations_at ts ds)) c.deref.ensures.value)
    ∙ sym (some_of_two params variables)
