-- Proves the law `macro_calls_are_written_out_once`.
use Rattle.std.proofs.Common.{reverse}
use Rattle.step_forms.proofs.MacroCalls.{expanded_again}
use Rattle.step_forms.proofs.OpenedActions.{actions_opened}
use Rattle.step_forms.proofs.OpenedFormulas.{init_opened, next_opened}
use Rattle.step_forms.proofs.OpenedRoutines.{vars_opened, is_own_opened}
use Rattle.step_forms.proofs.OpenedSteps.{actions_are_steps}
use Rattle.step_forms.proofs.laws.macro_calls_are_written_out_once.Goals as goal

pub returns-clause-again : goal.returns-clause-again
returns-clause-again c = λ a ss. expanded_again (reverse a.macros) ss

pub returns-clause-variables : goal.returns-clause-variables
returns-clause-variables c = vars_opened

pub returns-clause-own : goal.returns-clause-own
returns-clause-own c = is_own_opened

pub returns-clause-actions : goal.returns-clause-actions
returns-clause-actions c = actions_opened

pub returns-clause-steps : goal.returns-clause-steps
returns-clause-steps c = actions_are_steps

pub returns-clause-init : goal.returns-clause-init
returns-clause-init c = init_opened

pub returns-clause-next : goal.returns-clause-next
returns-clause-next c = λ b P h. next_opened P h b
