-- Proves the law `items_are_true_of_the_ends_of_a_step`.
use Rattle.action_builder.specs.laws.LabelSteps.{prepared_of}
use Rattle.action_builder.proofs.Steps.{step_exactly, step_fits, fits_step, step_stops}
use Rattle.action_builder.proofs.Items.{items_read}
use Rattle.action_builder.proofs.laws.items_are_true_of_the_ends_of_a_step.Goals as goal

pub returns-clause-exactly : goal.returns-clause-exactly
returns-clause-exactly c = step_exactly

pub returns-clause-ends : goal.returns-clause-ends
returns-clause-ends c = step_fits

pub returns-clause-holds : goal.returns-clause-holds
returns-clause-holds c = fits_step

pub returns-clause-faults : goal.returns-clause-faults
returns-clause-faults c = step_stops

pub returns-clause-reads : goal.returns-clause-reads
returns-clause-reads c d U vs env A r = items_read d.rules U vs A (prepared_of d) d.scope env r
