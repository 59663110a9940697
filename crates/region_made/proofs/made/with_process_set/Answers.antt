-- Proves that ProcSet is put before what is behind.
use Rattle.region_made.proofs.PartsMade.{with_part, without, puts_process_set}
use Rattle.region_made.proofs.made.with_process_set.Goals as goal

pub returns-in_default : goal.returns-in_default
returns-in_default c = without (puts_process_set c.process_set-set.result.0) c.process_set-set.ensures c.in_ok-region.field-0 c.in_default.is c.in_ok-region.ensures

pub returns : goal.returns
returns c = with_part (puts_process_set c.process_set-set.result.0) c.process_set-set.ensures c.in_ok-region.field-0 c.in-Some.region c.in-Some.is c.in_ok-region.ensures
