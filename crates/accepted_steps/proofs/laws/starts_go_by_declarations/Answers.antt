-- Proves the law `starts_go_by_declarations`.
use Rattle.step_walks.proofs.StartLaws.{start_flows}
use Rattle.accepted_steps.proofs.laws.starts_go_by_declarations.Goals as goal

pub returns : goal.returns
returns c = start_flows
