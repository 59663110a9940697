-- Proves the law `what_stands_open_in_an_algorithm_is_closed`.
use Rattle.c_reading.proofs.ClosingAll.{all_closed, macros_closed, procedures_closed, processes_closed, few_in_all}
use Rattle.c_reading.proofs.laws.what_stands_open_in_an_algorithm_is_closed.Goals as goal

pub returns-clause-closed : goal.returns-clause-closed
returns-clause-closed c = all_closed

pub returns-clause-macros : goal.returns-clause-macros
returns-clause-macros c = macros_closed

pub returns-clause-procedures : goal.returns-clause-procedures
returns-clause-procedures c = procedures_closed

pub returns-clause-processes : goal.returns-clause-processes
returns-clause-processes c = processes_closed

pub returns-clause-few : goal.returns-clause-few
returns-clause-few c = few_in_all
