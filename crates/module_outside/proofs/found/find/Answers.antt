-- A unit is read, or passed on, or it declares something.
use Rattle.std.proofs.Common.{◌<◌, length, Option, IfSome, ap, sym, subst, ◌∙◌, refl, arith}
use Rattle.std.proofs.lemmas.Result.{IfOk-from_err}
use Rattle.expr_nodes.specs.Ahead.{ahead}
use Rattle.module_outside.specs.OutsideAt.{definition_found, with_found}
use Rattle.module_outside.specs.declared.definition.ReadDefinition.{ReadDefinition}
use Rattle.module_outside.specs.SightIn.{Sees}
use Rattle.module_outside.proofs.FoundLaws.{goes_declared, sees_declared, goes_defined, sees_defined, goes_passed, sees_passed, held_push, held_kept}
use Rattle.module_outside.proofs.found.find.Goals as goal

pub returns-then-branch-clause-value : goal.returns-then-branch-clause-value
returns-then-branch-clause-value c v s = goes_declared c.args.pool.now c.args.found.now v (ahead c.args.unit.now 0) (sym c.in_ok-is_declared.ensures ∙ c.if-branch.true)

pub returns-then-branch-clause-sees : goal.returns-then-branch-clause-sees
returns-then-branch-clause-sees c v s = sees_declared c.args.sight.now v (ahead c.args.unit.now 0) (sym c.in_ok-is_declared.ensures ∙ c.if-branch.true) s

pub returns-in_ok-push-in-Some-clause-value : goal.returns-in_ok-push-in-Some-clause-value
returns-in_ok-push-in-Some-clause-value c v s =
    goes_defined c.args.pool.now c.definition.new.pool c.args.found.now _ v (ahead c.args.unit.now 0) c.in-Some.one c.definition.ensures.kept c.requires.held (sym c.in_ok-is_declared.ensures ∙ c.if-branch.false)
    (ap (definition_found c.definition.new.pool) (sym c.in-Some.is) ∙ c.in_ok-one.ensures.value v s) c.in_ok-push-in-Some.ensures.items refl

pub returns-in_ok-push-in-None-clause-value : goal.returns-in_ok-push-in-None-clause-value
returns-in_ok-push-in-None-clause-value c v s =
    goes_passed c.args.pool.now c.definition.new.pool c.args.found.now _ v (ahead c.args.unit.now 0) c.in_ok-passed_on-in-None.field-0 c.definition.ensures.kept c.requires.held (sym c.in_ok-is_declared.ensures ∙ c.if-branch.false)
    (ap (definition_found c.definition.new.pool) (sym c.in-None.is) ∙ c.in_ok-one.ensures.value v s) c.in_ok-passed_on-in-None.ensures refl c.in_ok-push-in-None.ensures.items

pub returns-in_ok-push-in-None-clause-sees : goal.returns-in_ok-push-in-None-clause-sees
returns-in_ok-push-in-None-clause-sees c v s =
    let none = ap (definition_found c.definition.new.pool) (sym c.in-None.is) ∙ c.in_ok-one.ensures.value v s in
    sees_passed c.definition.new.sight v (ahead c.args.unit.now 0) (sym c.in_ok-is_declared.ensures ∙ c.if-branch.false) none
    (subst (λ (o : Option ReadDefinition). Sees c.definition.new.sight (with_found v (definition_found c.definition.new.pool o))) c.in-None.is (c.in_ok-one.ensures.sees v s))

pub returns-in_ok-push-in-Some-clause-held : goal.returns-in_ok-push-in-Some-clause-held
returns-in_ok-push-in-Some-clause-held c =
    held_push c.args.pool.now c.definition.new.pool c.args.found.now.definitions.items c.push.new.self.items c.in-Some.one c.definition.ensures.kept c.requires.held
    (subst (λ (o : Option ReadDefinition). IfSome o (λ d. d.body < length c.definition.new.pool)) c.in-Some.is c.in_ok-one.ensures.within) c.in_ok-push-in-Some.ensures.items

pub returns-in_ok-push-in-None-clause-held : goal.returns-in_ok-push-in-None-clause-held
returns-in_ok-push-in-None-clause-held c = held_kept c.args.pool.now c.definition.new.pool c.args.found.now.definitions.items c.definition.ensures.kept c.requires.held

pub returns-then-branch-clause-held : goal.returns-then-branch-clause-held
returns-then-branch-clause-held c = c.requires.held

pub returns-then-branch-clause-kept : goal.returns-then-branch-clause-kept
returns-then-branch-clause-kept c = record { longer = omega arith; same = λ i h. refl }

pub returns-in_ok-push-in-Some-clause-sees : goal.returns-in_ok-push-in-Some-clause-sees
returns-in_ok-push-in-Some-clause-sees c v s =
    sees_defined c.definition.new.sight v (ahead c.args.unit.now 0) _ (sym c.in_ok-is_declared.ensures ∙ c.if-branch.false)
    (ap (definition_found c.definition.new.pool) (sym c.in-Some.is) ∙ c.in_ok-one.ensures.value v s)
    (subst (λ (o : Option ReadDefinition). Sees c.definition.new.sight (with_found v (definition_found c.definition.new.pool o))) c.in-Some.is (c.in_ok-one.ensures.sees v s))

pub returns-in_ok-push-in-Some-clause-kept : goal.returns-in_ok-push-in-Some-clause-kept
returns-in_ok-push-in-Some-clause-kept c = c.definition.ensures.kept

pub returns-in_ok-push-in-None-clause-kept : goal.returns-in_ok-push-in-None-clause-kept
returns-in_ok-push-in-None-clause-kept c = c.definition.ensures.kept

pub returns-in_err-is_declared-clause-value : goal.returns-in_err-is_declared-clause-value
returns-in_err-is_declared-clause-value c = IfOk-from_err c.from_residual.result _ c.from_residual.ensures.0

pub returns-in_err-is_declared-clause-sees : goal.returns-in_err-is_declared-clause-sees
returns-in_err-is_declared-clause-sees c = IfOk-from_err c.from_residual.result _ c.from_residual.ensures.0

pub returns-in_err-is_declared-clause-held : goal.returns-in_err-is_declared-clause-held
returns-in_err-is_declared-clause-held c = IfOk-from_err c.from_residual.result _ c.from_residual.ensures.0

pub returns-in_err-is_declared-clause-kept : goal.returns-in_err-is_declared-clause-kept
returns-in_err-is_declared-clause-kept c = record { longer = omega arith; same = λ i h. refl }

pub returns-in_err-one-clause-value : goal.returns-in_err-one-clause-value
returns-in_err-one-clause-value c = IfOk-from_err c.from_residual-in_err-one.result _ c.from_residual-in_err-one.ensures.0

pub returns-in_err-one-clause-sees : goal.returns-in_err-one-clause-sees
returns-in_err-one-clause-sees c = IfOk-from_err c.from_residual-in_err-one.result _ c.from_residual-in_err-one.ensures.0

pub returns-in_err-one-clause-held : goal.returns-in_err-one-clause-held
returns-in_err-one-clause-held c = IfOk-from_err c.from_residual-in_err-one.result _ c.from_residual-in_err-one.ensures.0

pub returns-in_err-one-clause-kept : goal.returns-in_err-one-clause-kept
returns-in_err-one-clause-kept c = c.definition.ensures.kept

pub returns-in_err-push-in-Some-clause-value : goal.returns-in_err-push-in-Some-clause-value
returns-in_err-push-in-Some-clause-value c = IfOk-from_err c.from_residual-in_err-push-in-Some.result _ c.from_residual-in_err-push-in-Some.ensures.0

pub returns-in_err-push-in-Some-clause-sees : goal.returns-in_err-push-in-Some-clause-sees
returns-in_err-push-in-Some-clause-sees c = IfOk-from_err c.from_residual-in_err-push-in-Some.result _ c.from_residual-in_err-push-in-Some.ensures.0

pub returns-in_err-push-in-Some-clause-held : goal.returns-in_err-push-in-Some-clause-held
returns-in_err-push-in-Some-clause-held c = IfOk-from_err c.from_residual-in_err-push-in-Some.result _ c.from_residual-in_err-push-in-Some.ensures.0

pub returns-in_err-push-in-Some-clause-kept : goal.returns-in_err-push-in-Some-clause-kept
returns-in_err-push-in-Some-clause-kept c = c.definition.ensures.kept

pub returns-in_err-passed_on-in-None-clause-value : goal.returns-in_err-passed_on-in-None-clause-value
returns-in_err-passed_on-in-None-clause-value c = IfOk-from_err c.from_residual-in_err-passed_on-in-None.result _ c.from_residual-in_err-passed_on-in-None.ensures.0

pub returns-in_err-passed_on-in-None-clause-sees : goal.returns-in_err-passed_on-in-None-clause-sees
returns-in_err-passed_on-in-None-clause-sees c = IfOk-from_err c.from_residual-in_err-passed_on-in-None.result _ c.from_residual-in_err-passed_on-in-None.ensures.0

pub returns-in_err-passed_on-in-None-clause-held : goal.returns-in_err-passed_on-in-None-clause-held
returns-in_err-passed_on-in-None-clause-held c = IfOk-from_err c.from_residual-in_err-passed_on-in-None.result _ c.from_residual-in_err-passed_on-in-None.ensures.0

pub returns-in_err-passed_on-in-None-clause-kept : goal.returns-in_err-passed_on-in-None-clause-kept
returns-in_err-passed_on-in-None-clause-kept c = c.definition.ensures.kept

pub returns-in_err-push-in-None-clause-value : goal.returns-in_err-push-in-None-clause-value
returns-in_err-push-in-None-clause-value c = IfOk-from_err c.from_residual-in_err-push-in-None.result _ c.from_residual-in_err-push-in-None.ensures.0

pub returns-in_err-push-in-None-clause-sees : goal.returns-in_err-push-in-None-clause-sees
returns-in_err-push-in-None-clause-sees c = IfOk-from_err c.from_residual-in_err-push-in-None.result _ c.from_residual-in_err-push-in-None.ensures.0

pub returns-in_err-push-in-None-clause-held : goal.returns-in_err-push-in-None-clause-held
returns-in_err-push-in-None-clause-held c = IfOk-from_err c.from_residual-in_err-push-in-None.result _ c.from_residual-in_err-push-in-None.ensures.0

pub returns-in_err-push-in-None-clause-kept : goal.returns-in_err-push-in-None-clause-kept
returns-in_err-push-in-None-clause-kept c = c.definition.ensures.kept
