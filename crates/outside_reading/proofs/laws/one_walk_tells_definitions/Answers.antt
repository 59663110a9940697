-- One walk tells it.
use Rattle.outside_reading.proofs.TreeDepths.{definition_told}
use Rattle.outside_reading.proofs.laws.one_walk_tells_definitions.Goals as goal

pub returns : goal.returns
returns c = definition_told
