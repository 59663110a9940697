-- Proves the law `own_variables_stand_at_the_identifier`.
use Rattle.action_builder.proofs.Prepared.{localised, own_stands}
use Rattle.action_builder.proofs.laws.own_variables_stand_at_the_identifier.Goals as goal

pub returns-clause-courses : goal.returns-clause-courses
returns-clause-courses c = localised

pub returns-clause-there : goal.returns-clause-there
returns-clause-there c = own_stands
