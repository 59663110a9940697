-- A definition is a name, a head and a body.
use Rattle.std.proofs.Common.{ℕ, ◌≤◌, length, Option, IfSome, Vec, Global, ap, sym, ◌∙◌, subst, refl, arith}
use Rattle.std.proofs.lemmas.Result.{IfOk-from_err, IfOk-weaker}
use Rattle.tla_tree.specs.declared.name.PlacedName.{PlacedName}
use Rattle.expr_nodes.specs.Ahead.{ahead}
use Rattle.module_outside.specs.Fronts.{names_and_rest}
use Rattle.module_outside.specs.OutsideAt.{definition_found}
use Rattle.module_outside.proofs.DefinitionLaws.{untitled, headed, headless, alone}
use Rattle.module_outside.proofs.definition.spelled.Goals as goal

pub returns-in-Some-2-clause-value : goal.returns-in-Some-2-clause-value
returns-in-Some-2-clause-value c =
    IfOk-weaker c.with_body.result _ _ (λ r h. headed c.args.unit.now c.in-Some.name c.in_ok-name.field-0 c.in-Some-2.params.items c.in-Some-2.at (definition_found c.with_body.new.pool r) c.in-Some.is c.in_ok-name.ensures
    (ap (names_and_rest c.args.unit.now) (sym c.in-Some-2.is) ∙ c.in_ok-params.ensures.value) h)
    c.with_body.ensures.value

pub returns-in-None-clause-value : goal.returns-in-None-clause-value
returns-in-None-clause-value c =
    headless c.args.unit.now c.in-Some.name c.in_ok-name.field-0 c.in-Some.is c.in_ok-name.ensures (ap (names_and_rest c.args.unit.now) (sym c.in-None.is) ∙ c.in_ok-params.ensures.value)

pub returns-then-len-lt2-clause-value : goal.returns-then-len-lt2-clause-value
returns-then-len-lt2-clause-value c =
    alone c.args.unit.now c.in-Some.name c.in_ok-name.field-0 c.in-Some.is c.in_ok-name.ensures (let h = c.if-len-lt2.true in let k = c.len.ensures in omega (arith, h, k))

pub returns-in_err-name-clause-value : goal.returns-in_err-name-clause-value
returns-in_err-name-clause-value c = IfOk-from_err c.from_residual.result _ c.from_residual.ensures.0

pub returns-in_err-name-clause-within : goal.returns-in_err-name-clause-within
returns-in_err-name-clause-within c = IfOk-from_err c.from_residual.result _ c.from_residual.ensures.0

pub returns-in_err-name-clause-kept : goal.returns-in_err-name-clause-kept
returns-in_err-name-clause-kept c = record { longer = omega arith; same = λ i h. refl }

pub returns-in_err-params-clause-value : goal.returns-in_err-params-clause-value
returns-in_err-params-clause-value c = IfOk-from_err c.from_residual-in_err-params.result _ c.from_residual-in_err-params.ensures.0

pub returns-in_err-params-clause-within : goal.returns-in_err-params-clause-within
returns-in_err-params-clause-within c = IfOk-from_err c.from_residual-in_err-params.result _ c.from_residual-in_err-params.ensures.0

pub returns-in_err-params-clause-kept : goal.returns-in_err-params-clause-kept
returns-in_err-params-clause-kept c = record { longer = omega arith; same = λ i h. refl }

pub returns-in_default-clause-value : goal.returns-in_default-clause-value
returns-in_default-clause-value c = untitled (ahead c.args.unit.now 0) c.in_ok-name.field-0 c.in_default.is c.in_ok-name.ensures

pub returns-in_default-clause-within : goal.returns-in_default-clause-within
returns-in_default-clause-within c = tt

pub returns-in_default-clause-kept : goal.returns-in_default-clause-kept
returns-in_default-clause-kept c = record { longer = omega arith; same = λ i h. refl }

pub returns-then-len-lt2-clause-within : goal.returns-then-len-lt2-clause-within
returns-then-len-lt2-clause-within c = tt

pub returns-then-len-lt2-clause-kept : goal.returns-then-len-lt2-clause-kept
returns-then-len-lt2-clause-kept c = record { longer = omega arith; same = λ i h. refl }

pub head_at-requires : goal.head_at-requires
head_at-requires c = record { there = (let h = c.if-len-lt2.false in let k = c.len.ensures in omega (arith, h, k)) }

pub with_body-requires-clause-there : goal.with_body-requires-clause-there
with_body-requires-clause-there c = subst (λ (o : Option (Vec PlacedName Global × ℕ)). IfSome o (λ x. x.1 ≤ length c.args.unit.now.items.items)) c.in-Some-2.is c.in_ok-params.ensures.within

pub with_body-requires-clause-small : goal.with_body-requires-clause-small
with_body-requires-clause-small c = c.requires.small

pub returns-in-Some-2-clause-within : goal.returns-in-Some-2-clause-within
returns-in-Some-2-clause-within c = c.with_body.ensures.within

pub returns-in-Some-2-clause-kept : goal.returns-in-Some-2-clause-kept
returns-in-Some-2-clause-kept c = c.with_body.ensures.kept

pub returns-in-None-clause-within : goal.returns-in-None-clause-within
returns-in-None-clause-within c = tt

pub returns-in-None-clause-kept : goal.returns-in-None-clause-kept
returns-in-None-clause-kept c = record { longer = omega arith; same = λ i h. refl }
