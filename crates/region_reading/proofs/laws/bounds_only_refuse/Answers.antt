-- Proves the law `bounds_only_refuse`.
use Rattle.region_reading.proofs.BoundedUnits.{unit_refuses, form_same, form_fits}
use Rattle.region_reading.proofs.BoundedModules.{module_same, module_opens, module_fits}
use Rattle.region_reading.proofs.laws.bounds_only_refuse.Goals as goal

pub returns-clause-unit : goal.returns-clause-unit
returns-clause-unit c = unit_refuses

pub returns-clause-same : goal.returns-clause-same
returns-clause-same c = form_same

pub returns-clause-fits : goal.returns-clause-fits
returns-clause-fits c = form_fits

pub returns-clause-sound : goal.returns-clause-sound
returns-clause-sound c = λ x bare r l w m e. (module_same x bare r l w m e, module_opens x bare r l w m e)

pub returns-clause-complete : goal.returns-clause-complete
returns-clause-complete c = module_fits
