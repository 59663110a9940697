-- Proves the law `calls_go_by_the_written_names`.
use Rattle.accepted_steps.proofs.StepsFlow.{written_steps_flow}
use Rattle.accepted_steps.proofs.laws.calls_go_by_the_written_names.Goals as goal

pub returns : goal.returns
returns c = written_steps_flow
