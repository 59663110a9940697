-- Proves the law `starts_go_by_the_written_names`.
use Rattle.accepted_steps.proofs.StepsFlow.{written_starts_flow}
use Rattle.accepted_steps.proofs.laws.starts_go_by_the_written_names.Goals as goal

pub returns : goal.returns
returns c = written_starts_flow
