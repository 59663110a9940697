-- Proves the law `the_sample_step_meets_all_that_is_asked`.
use Rattle.action_builder.proofs.Witness.{pairs_stand, sample_calls, sample_bare, within, prepared, ready}
use Rattle.action_builder.proofs.laws.the_sample_step_meets_all_that_is_asked.Goals as goal

pub returns-clause-expanded : goal.returns-clause-expanded
returns-clause-expanded c = (sample_calls, sample_bare)

pub returns-clause-jumps : goal.returns-clause-jumps
returns-clause-jumps c = within

pub returns-clause-pairs : goal.returns-clause-pairs
returns-clause-pairs c = pairs_stand

pub returns-clause-prepared : goal.returns-clause-prepared
returns-clause-prepared c = prepared

pub returns-clause-ready : goal.returns-clause-ready
returns-clause-ready c = ready
