-- Proves the law `counts_are_within_the_limits`.
use Rattle.pcal_tree.proofs.CountLimits.{few_variables, few_processes, few_procedures, few_labels, few_wanted}
use Rattle.pcal_tree.proofs.laws.counts_are_within_the_limits.Goals as goal

pub returns-clause-variables : goal.returns-clause-variables
returns-clause-variables c = few_variables

pub returns-clause-processes : goal.returns-clause-processes
returns-clause-processes c = few_processes

pub returns-clause-procedures : goal.returns-clause-procedures
returns-clause-procedures c = few_procedures

pub returns-clause-labels : goal.returns-clause-labels
returns-clause-labels c = few_labels

pub returns-clause-names : goal.returns-clause-names
returns-clause-names c = few_wanted
