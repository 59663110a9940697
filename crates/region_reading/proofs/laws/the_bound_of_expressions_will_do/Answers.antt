-- Proves the law `the_bound_of_expressions_will_do`.
use Rattle.region_reading.proofs.BoundIsRead.{bound_is_read, bound_shortens}
use Rattle.region_reading.proofs.laws.the_bound_of_expressions_will_do.Goals as goal

pub returns-clause-within : goal.returns-clause-within
returns-clause-within c = bound_is_read

pub returns-clause-shortens : goal.returns-clause-shortens
returns-clause-shortens c = bound_shortens
