-- Proves the law `given_numbers_fit`.
use Rattle.tla_expr.proofs.NumbersGiven.{given_small, given_fit}
use Rattle.tla_expr.proofs.laws.given_numbers_fit.Goals as goal

pub returns-clause-text : goal.returns-clause-text
returns-clause-text c = given_small

pub returns-clause-read : goal.returns-clause-read
returns-clause-read c = given_fit
