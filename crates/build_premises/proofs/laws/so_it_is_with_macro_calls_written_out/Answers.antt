-- Proves the law `so_it_is_with_macro_calls_written_out`.
use Rattle.build_premises.proofs.OpenedSteps.{buildable_opened, opened_built, opened_settled, opened_variables, opened_few, opened_locals, opened_procedures}
use Rattle.build_premises.proofs.laws.so_it_is_with_macro_calls_written_out.Goals as goal

pub returns-clause-statements : goal.returns-clause-statements
returns-clause-statements c = buildable_opened

pub returns-clause-steps : goal.returns-clause-steps
returns-clause-steps c = opened_built

pub returns-clause-settled : goal.returns-clause-settled
returns-clause-settled c = opened_settled

pub returns-clause-variables : goal.returns-clause-variables
returns-clause-variables c = opened_variables

pub returns-clause-few : goal.returns-clause-few
returns-clause-few c = opened_few

pub returns-clause-locals : goal.returns-clause-locals
returns-clause-locals c = opened_locals

pub returns-clause-procedures : goal.returns-clause-procedures
returns-clause-procedures c = opened_procedures
