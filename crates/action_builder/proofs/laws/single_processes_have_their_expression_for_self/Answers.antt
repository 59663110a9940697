-- Proves the law `single_processes_have_their_expression_for_self`.
use Rattle.action_builder.proofs.SingleProcess.{single_law, meant_law, means_value}
use Rattle.action_builder.proofs.laws.single_processes_have_their_expression_for_self.Goals as goal
use Rattle.tla_value.proofs.CanonicalTests.{means_its_value}

pub returns-clause-truth : goal.returns-clause-truth
returns-clause-truth c = meant_law

pub returns-clause-value : goal.returns-clause-value
returns-clause-value c = means_its_value

pub returns-clause-equal : goal.returns-clause-equal
returns-clause-equal c = single_law

pub returns-clause-listed : goal.returns-clause-listed
returns-clause-listed c = means_value
