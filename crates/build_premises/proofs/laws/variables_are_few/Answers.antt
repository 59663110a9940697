-- Proves the law `variables_are_few`.
use Rattle.build_premises.proofs.CheckedVariables.{labelled_few, checked_few}
use Rattle.build_premises.proofs.FewVariables.{vars_few}
use Rattle.build_premises.proofs.laws.variables_are_few.Goals as goal

pub returns-clause-few : goal.returns-clause-few
returns-clause-few c = vars_few

pub returns-clause-labelled : goal.returns-clause-labelled
returns-clause-labelled c = labelled_few

pub returns-clause-checked : goal.returns-clause-checked
returns-clause-checked c = checked_few
