-- Proves the law `accepted_algorithms_can_run`.
use Rattle.written_runs.proofs.OwnSpotLaws.{accepted_opens}
use Rattle.running.proofs.ProgramLaws.{accepted_labelled, accepted_apart}
use Rattle.running.proofs.laws.accepted_algorithms_can_run.Goals as goal

pub returns-clause-openable : goal.returns-clause-openable
returns-clause-openable c = accepted_opens

pub returns-clause-labelled : goal.returns-clause-labelled
returns-clause-labelled c = accepted_labelled

pub returns-clause-apart : goal.returns-clause-apart
returns-clause-apart c = accepted_apart
