-- Proves the law `process_set_and_termination_are_of_all_processes`.
use Rattle.translation.proofs.ActionSets.{process_set_value, termination_true}
use Rattle.translation.proofs.laws.process_set_and_termination_are_of_all_processes.Goals as goal

pub returns-clause-set : goal.returns-clause-set
returns-clause-set c = process_set_value

pub returns-clause-ended : goal.returns-clause-ended
returns-clause-ended c = termination_true
