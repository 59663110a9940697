-- Why the calls for each bind end.
use Rattle.std.proofs.Common.{length}
use Rattle.step_items.proofs.statements.+nested.Given as goal

abbrev pub decreases-nested : goal.decreases-nested
decreases-nested l = length l.binds.now
