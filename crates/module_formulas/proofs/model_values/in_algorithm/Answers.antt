-- Proves that all variables and parameters are looked at.
use Rattle.std.proofs.Common.{◌≡◌, Bool, true, false, ◌||◌, List, sym, ap, ◌∙◌}
use Rattle.std.specs.List.{flat_map}
use Rattle.pcal_tree.specs.declared.algorithm.Declaration.{Declaration}
use Rattle.pcal_tree.specs.declared.algorithm.Procedure.{Procedure}
use Rattle.pcal_tree.specs.InMemory.{declarations_at}
use Rattle.module_formulas.specs.Unset.{some_unset, procedure_declarations, main_unset}
use Rattle.module_formulas.proofs.UnsetLaws.{all_unset}
use Rattle.module_formulas.proofs.model_values.in_algorithm.Goals as goal

first_of : (a b c : Bool) → true ≡ a → true ≡ (a || (b || c))
first_of a b c h = ap (λ (x : Bool). x || (b || c)) h

second_of : (a b c : Bool) → false ≡ a → true ≡ b → true ≡ (a || (b || c))
second_of a b c h k = λ i. h i || (k i || c)

third_of : (a b c d : Bool) → false ≡ a → false ≡ b → d ≡ c → d ≡ (a || (b || c))
third_of a b c d h k e = e ∙ (λ i. h i || (k i || c))

pub returns-then-any_unset : goal.returns-then-any_unset
returns-then-any_unset c = λ ts.
    let a = c.args.algorithm.now in
    first_of (some_unset (declarations_at ts a.globals.items)) (some_unset (flat_map (procedure_declarations ts) a.procedures.items)) (main_unset ts a.main)
    (sym c.if-any_unset.true ∙ c.any_unset.ensures ts ∙ ap (λ (ds : List Declaration). some_unset (declarations_at ts ds)) c.deref.ensures.value)
    ∙ sym (all_unset ts a)

pub returns-then-in_procedures : goal.returns-then-in_procedures
returns-then-in_procedures c = λ ts.
    let a = c.args.algorithm.now in
    second_of (some_unset (declarations_at ts a.globals.items)) (some_unset (flat_map (procedure_declarations ts) a.procedures.items)) (main_unset ts a.main)
    (sym c.if-any_unset.false ∙ c.any_unset.ensures ts ∙ ap (λ (ds : List Declaration). some_unset (declarations_at ts ds)) c.deref.ensures.value)
    (sym c.if-in_procedures.true ∙ c.in_procedures.ensures ts ∙ ap (λ (ps : List Procedure). some_unset (flat_map (procedure_declarations ts) ps)) c.deref-2.ensures.value)
    ∙ sym (all_unset ts a)

pub returns : goal.returns
returns c = λ ts.
    let a = c.args.algorithm.now in
    third_of (some_unset (declarations_at ts a.globals.items)) (some_unset (flat_map (procedure_declarations ts) a.procedures.items)) (main_unset ts a.main) c.in_main.result
    (sym c.if-any_unset.false ∙ c.any_unset.ensures ts ∙ ap (λ (ds : List Declaration). some_unset (declarations_at ts ds)) c.deref.ensures.value)
    (sym c.if-in_procedures.false ∙ c.in_procedures.ensures ts ∙ ap (λ (ps : List Procedure). some_unset (flat_map (procedure_declarations ts) ps)) c.deref-2.ensures.value)
    (c.in_main.ensures ts)
    ∙ sym (all_unset ts a)
