-- Proves the law `names_are_apart`.
use Rattle.build_premises.proofs.VariablesApart.{variables_apart, locals_apart, procedures_apart, routines_apart}
use Rattle.build_premises.proofs.laws.names_are_apart.Goals as goal

pub returns-clause-variables : goal.returns-clause-variables
returns-clause-variables c = variables_apart

pub returns-clause-locals : goal.returns-clause-locals
returns-clause-locals c = locals_apart

pub returns-clause-procedures : goal.returns-clause-procedures
returns-clause-procedures c = procedures_apart

pub returns-clause-routines : goal.returns-clause-routines
returns-clause-routines c = routines_apart
