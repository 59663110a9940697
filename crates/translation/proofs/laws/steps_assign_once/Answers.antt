-- Proves the law `steps_assign_once`.
use Rattle.translation.proofs.EachStepOnce.{steps_once, jumps_once}
use Rattle.translation.proofs.ReadySteps.{sets_ready}
use Rattle.translation.proofs.laws.steps_assign_once.Goals as goal

pub returns-clause-once : goal.returns-clause-once
returns-clause-once c = steps_once

pub returns-clause-jumps : goal.returns-clause-jumps
returns-clause-jumps c = jumps_once

pub returns-clause-ready : goal.returns-clause-ready
returns-clause-ready c = sets_ready
