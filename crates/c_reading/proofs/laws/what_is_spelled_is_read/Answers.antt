-- Proves the law `what_is_spelled_is_read`.
use Rattle.c_reading.proofs.WholeAlgorithm.{spelled_is_read}
use Rattle.c_reading.proofs.laws.what_is_spelled_is_read.Goals as goal

pub returns : goal.returns
returns c = spelled_is_read
