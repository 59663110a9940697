-- Proves the law `modules_are_read_exactly`.
use Rattle.region_reading.proofs.ModulesRead.{module_ok, module_read}
use Rattle.region_reading.proofs.laws.modules_are_read_exactly.Goals as goal

pub returns-clause-sound : goal.returns-clause-sound
returns-clause-sound c = module_ok

pub returns-clause-complete : goal.returns-clause-complete
returns-clause-complete c = module_read
