-- Proves the law `accepted_steps_fit`.
use Rattle.build_premises.proofs.OpenedParts.{step_fits}
use Rattle.build_premises.proofs.laws.accepted_steps_fit.Goals as goal

pub returns : goal.returns
returns c = record { fit = step_fits }
