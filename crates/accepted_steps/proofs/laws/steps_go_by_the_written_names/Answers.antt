-- Proves the law `steps_go_by_the_written_names`.
use Rattle.accepted_steps.proofs.StepsFlow.{steps_flow}
use Rattle.accepted_steps.proofs.laws.steps_go_by_the_written_names.Goals as goal

pub returns : goal.returns
returns c = steps_flow
