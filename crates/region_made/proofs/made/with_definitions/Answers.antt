-- Proves that the definitions are put before what is behind.
use Rattle.region_made.proofs.PartsMade.{with_part, without, puts_definitions}
use Rattle.region_made.proofs.made.with_definitions.Goals as goal

pub returns-in_default : goal.returns-in_default
returns-in_default c = without (puts_definitions c.in_ok-definitions.definitions) c.in_ok-definitions.ensures c.in_ok-region.field-0 c.in_default.is c.in_ok-region.ensures

pub returns : goal.returns
returns c = with_part (puts_definitions c.in_ok-definitions.definitions) c.in_ok-definitions.ensures c.in_ok-region.field-0 c.in-Some.region c.in-Some.is c.in_ok-region.ensures
