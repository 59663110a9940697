-- Proves the law `reading_goes_through_the_lists`.
use Rattle.p_reading.proofs.ClosingAll.{resumed_on, main_resumed}
use Rattle.p_reading.proofs.ResumedText.{text_resumed, macro_resumed, procedure_resumed, first_process_resumed, next_process_resumed}
use Rattle.p_reading.proofs.laws.reading_goes_through_the_lists.Goals as goal

pub returns-clause-text : goal.returns-clause-text
returns-clause-text c = text_resumed

pub returns-clause-macros : goal.returns-clause-macros
returns-clause-macros c = macro_resumed

pub returns-clause-procedures : goal.returns-clause-procedures
returns-clause-procedures c = procedure_resumed

pub returns-clause-first_process : goal.returns-clause-first_process
returns-clause-first_process c = first_process_resumed

pub returns-clause-next_process : goal.returns-clause-next_process
returns-clause-next_process c = next_process_resumed

pub returns-clause-steps : goal.returns-clause-steps
returns-clause-steps c = resumed_on

pub returns-clause-main : goal.returns-clause-main
returns-clause-main c = main_resumed
