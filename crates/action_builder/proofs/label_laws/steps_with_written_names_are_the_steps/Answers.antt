-- Proves the law `steps_with_written_names_are_the_steps`.
use Rattle.std.proofs.Common.{subst, sym}
use Rattle.action_builder.proofs.StepsOfLabels.{outcome_is}
use Rattle.action_builder.proofs.label_laws.steps_with_written_names_are_the_steps.Goals as goal

pub returns : goal.returns
returns c P extra v d names callable e k n s r = (λ h. subst (λ (X : Type 0). X) (outcome_is P extra v d names callable e k n s r) h, λ h. subst (λ (X : Type 0). X) (sym (outcome_is P extra v d names callable e k n s r)) h)
