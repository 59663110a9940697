-- Proves the law `actions_are_true_of_steps`.
use Rattle.action_builder.proofs.Label.{action_exactly, action_leads, leads_action, action_stops}
use Rattle.action_builder.proofs.laws.actions_are_true_of_steps.Goals as goal

pub returns-clause-exactly : goal.returns-clause-exactly
returns-clause-exactly c = action_exactly

pub returns-clause-leads : goal.returns-clause-leads
returns-clause-leads c = action_leads

pub returns-clause-holds : goal.returns-clause-holds
returns-clause-holds c = leads_action

pub returns-clause-faults : goal.returns-clause-faults
returns-clause-faults c = action_stops
