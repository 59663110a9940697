-- Proves the law `jumps_of_accepted_algorithms_can_be_written`.
use Rattle.translation.proofs.FramesAccepted.{pc_stands}
use Rattle.translation.proofs.PairsApart.{pairs_law}
use Rattle.translation.proofs.PreparedSteps.{prepared_law}
use Rattle.translation.proofs.laws.jumps_of_accepted_algorithms_can_be_written.Goals as goal

pub returns-clause-prepared : goal.returns-clause-prepared
returns-clause-prepared c = prepared_law

pub returns-clause-pairs : goal.returns-clause-pairs
returns-clause-pairs c = pairs_law

pub returns-clause-pc : goal.returns-clause-pc
returns-clause-pc c = pc_stands
