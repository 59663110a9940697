-- Proves the law `accepted_algorithms_can_be_written`.
use Rattle.translation.proofs.AcceptedAlgorithms.{accepted_writable}
use Rattle.translation.proofs.OnceThrough.{accepted_once}
use Rattle.translation.proofs.laws.accepted_algorithms_can_be_written.Goals as goal

pub returns-clause-written : goal.returns-clause-written
returns-clause-written c = accepted_writable

pub returns-clause-once : goal.returns-clause-once
returns-clause-once c = accepted_once
