-- Proves the law `jumps_end_their_lists`.
use Rattle.translation.proofs.EndingJumps.{jumps_end}
use Rattle.translation.proofs.laws.jumps_end_their_lists.Goals as goal

pub returns : goal.returns
returns c = jumps_end
