-- Proves the law `what_is_read_is_spelled`.
use Rattle.p_reading.proofs.SoundAlgorithm.{read_is_spelled}
use Rattle.p_reading.proofs.laws.what_is_read_is_spelled.Goals as goal

pub returns : goal.returns
returns c = read_is_spelled
