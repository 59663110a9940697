-- They are not.
use Rattle.outside_reading.proofs.SmallNumbers.{large_unread}
use Rattle.outside_reading.proofs.laws.large_numbers_are_not_read.Goals as goal

pub returns : goal.returns
returns c = large_unread
