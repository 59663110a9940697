-- Proves the law `starts_are_initial`.
use Rattle.accepted_steps.proofs.StartedStates.{starts_initial, within_limits, without_limits}
use Rattle.accepted_steps.proofs.laws.starts_are_initial.Goals as goal

pub returns-clause-any : goal.returns-clause-any
returns-clause-any c = starts_initial

pub returns-clause-both : goal.returns-clause-both
returns-clause-both c = (without_limits, within_limits)
