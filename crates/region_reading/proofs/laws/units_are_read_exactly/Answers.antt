-- Proves the law `units_are_read_exactly`.
use Rattle.region_reading.proofs.UnitsRead.{form_ok, form_read, unit_ok, unit_read}
use Rattle.region_reading.proofs.laws.units_are_read_exactly.Goals as goal

pub returns-clause-sound : goal.returns-clause-sound
returns-clause-sound c = form_ok

pub returns-clause-complete : goal.returns-clause-complete
returns-clause-complete c = form_read

pub returns-clause-unit : goal.returns-clause-unit
returns-clause-unit c = unit_ok

pub returns-clause-every : goal.returns-clause-every
returns-clause-every c = unit_read
