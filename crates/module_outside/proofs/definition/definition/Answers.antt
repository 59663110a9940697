-- No definition with a number that is too large is read.
use Rattle.std.proofs.Common.{◌<◌, length, Option, IfSome, ◌∙◌, ap, sym, subst, refl, arith}
use Rattle.std.proofs.lemmas.Result.{IfOk-from_err, IfOk-weaker}
use Rattle.outside_reading.proofs.LargeNumbers.{large_undefined, spelled_defined}
use Rattle.outside_reading.specs.PlainUnits.{if_spelled}
use Rattle.module_outside.specs.OutsideAt.{definition_found}
use Rattle.expr_nodes.specs.Ahead.{ahead}
use Rattle.module_outside.specs.declared.definition.ReadDefinition.{ReadDefinition}
use Rattle.module_outside.proofs.definition.definition.Goals as goal

pub returns-then-not-are_small-clause-value : goal.returns-then-not-are_small-clause-value
returns-then-not-are_small-clause-value c v s = sym (large_undefined v (ahead c.args.unit.now 0) (sym c.are_small.ensures ∙ c.if-not-are_small.true))

pub returns-then-not-are_small-clause-within : goal.returns-then-not-are_small-clause-within
returns-then-not-are_small-clause-within c = tt

pub returns-then-not-are_small-clause-sees : goal.returns-then-not-are_small-clause-sees
returns-then-not-are_small-clause-sees c v s = s

pub returns-then-not-are_small-clause-kept : goal.returns-then-not-are_small-clause-kept
returns-then-not-are_small-clause-kept c = record { longer = omega arith; same = λ i h. refl }

pub spelled-requires-clause-small : goal.spelled-requires-clause-small
spelled-requires-clause-small c = sym c.are_small.ensures ∙ c.if-not-are_small.false

pub returns-in_err-found-clause-value : goal.returns-in_err-found-clause-value
returns-in_err-found-clause-value c = IfOk-from_err c.from_residual.result _ c.from_residual.ensures.0

pub returns-in_err-found-clause-within : goal.returns-in_err-found-clause-within
returns-in_err-found-clause-within c = IfOk-from_err c.from_residual.result _ c.from_residual.ensures.0

pub returns-in_err-found-clause-sees : goal.returns-in_err-found-clause-sees
returns-in_err-found-clause-sees c = IfOk-from_err c.from_residual.result _ c.from_residual.ensures.0

pub returns-in_err-found-clause-kept : goal.returns-in_err-found-clause-kept
returns-in_err-found-clause-kept c = c.spelled.ensures.kept

pub if_read-requires : goal.if_read-requires
if_read-requires c = subst (λ (o : Option ReadDefinition). IfSome o (λ d. d.body < length c.spelled.new.pool)) c.in-Some.is c.in_ok-found.ensures.within

pub returns-in-Some-clause-value : goal.returns-in-Some-clause-value
returns-in-Some-clause-value c = IfOk-weaker c.if_read.result _ _ (λ r h v s. h v s ∙ ap (λ (o : Option ReadDefinition). if_spelled v (definition_found c.spelled.new.pool o)) (sym c.in-Some.is) ∙ ap (if_spelled v) c.in_ok-found.ensures.value ∙ sym (spelled_defined v (ahead c.args.unit.now 0))) c.if_read.ensures.value

pub returns-in-Some-clause-within : goal.returns-in-Some-clause-within
returns-in-Some-clause-within c = c.if_read.ensures.within

pub returns-in-Some-clause-sees : goal.returns-in-Some-clause-sees
returns-in-Some-clause-sees c = c.if_read.ensures.sees

pub returns-in-None-clause-value : goal.returns-in-None-clause-value
returns-in-None-clause-value c v s = ap (λ (o : Option ReadDefinition). if_spelled v (definition_found c.spelled.new.pool o)) (sym c.in-None.is) ∙ ap (if_spelled v) c.in_ok-found.ensures.value ∙ sym (spelled_defined v (ahead c.args.unit.now 0))

pub returns-in-Some-clause-kept : goal.returns-in-Some-clause-kept
returns-in-Some-clause-kept c = c.spelled.ensures.kept

pub returns-in-None-clause-within : goal.returns-in-None-clause-within
returns-in-None-clause-within c = tt

pub returns-in-None-clause-sees : goal.returns-in-None-clause-sees
returns-in-None-clause-sees c v s = s

pub returns-in-None-clause-kept : goal.returns-in-None-clause-kept
returns-in-None-clause-kept c = c.spelled.ensures.kept
