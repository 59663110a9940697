-- Proves the law `the_variables_are_the_written_names`.
use Rattle.translation.proofs.NoPlaces.{naming_bare, variables_bare}
use Rattle.translation.proofs.laws.the_variables_are_the_written_names.Goals as goal

pub returns-clause-names : goal.returns-clause-names
returns-clause-names c = λ o g. naming_bare o g

pub returns-clause-variables : goal.returns-clause-variables
returns-clause-variables c = λ b o g. variables_bare o g

pub returns-clause-vars : goal.returns-clause-vars
returns-clause-vars c = λ b o g. variables_bare o g
