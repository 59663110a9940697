-- Proves the law `first_values_go_by_the_written_names`.
use Rattle.accepted_steps.proofs.StepsFlow.{first_values_written}
use Rattle.accepted_steps.proofs.laws.first_values_go_by_the_written_names.Goals as goal

pub returns : goal.returns
returns c = first_values_written
