-- Proves the law `what_can_be_built_is_settled`.
use Rattle.build_premises.proofs.BuiltSteps.{buildable_no_old, buildable_calls, label_settled, begin_settled, step_settled}
use Rattle.build_premises.proofs.JumpsSettled.{buildable_settled}
use Rattle.build_premises.proofs.laws.what_can_be_built_is_settled.Goals as goal

pub returns-clause-settled : goal.returns-clause-settled
returns-clause-settled c = buildable_settled

pub returns-clause-old : goal.returns-clause-old
returns-clause-old c = buildable_no_old

pub returns-clause-calls : goal.returns-clause-calls
returns-clause-calls c = buildable_calls

pub returns-clause-labels : goal.returns-clause-labels
returns-clause-labels c = label_settled

pub returns-clause-begins : goal.returns-clause-begins
returns-clause-begins c = begin_settled

pub returns-clause-steps : goal.returns-clause-steps
returns-clause-steps c = step_settled
