-- What is read so is outside.
use Rattle.outside_reading.proofs.OutsideFound.{found_outside}
use Rattle.outside_reading.proofs.laws.what_is_read_is_outside.Goals as goal

pub returns : goal.returns
returns c = found_outside
