-- Proves the law `whole_variables_are_assigned_once`.
use Rattle.build_premises.proofs.OpenedParts.{opened_parts}
use Rattle.build_premises.proofs.StepsInParts.{label_parts, begin_parts, step_parts}
use Rattle.build_premises.proofs.laws.whole_variables_are_assigned_once.Goals as goal

pub returns-clause-labels : goal.returns-clause-labels
returns-clause-labels c = label_parts

pub returns-clause-begins : goal.returns-clause-begins
returns-clause-begins c = begin_parts

pub returns-clause-steps : goal.returns-clause-steps
returns-clause-steps c = step_parts

pub returns-clause-opened : goal.returns-clause-opened
returns-clause-opened c = opened_parts
