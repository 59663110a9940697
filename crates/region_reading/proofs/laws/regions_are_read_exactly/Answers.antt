-- Proves the law `regions_are_read_exactly`.
use Rattle.region_reading.proofs.RegionsRead.{region_ok, region_read}
use Rattle.region_reading.proofs.laws.regions_are_read_exactly.Goals as goal

pub returns-clause-sound : goal.returns-clause-sound
returns-clause-sound c = region_ok

pub returns-clause-complete : goal.returns-clause-complete
returns-clause-complete c = region_read
