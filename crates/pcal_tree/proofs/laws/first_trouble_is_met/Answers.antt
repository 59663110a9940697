-- Proves the law `first_trouble_is_met`.
use Rattle.pcal_tree.proofs.Choices.{first_has, none_has}
use Rattle.pcal_tree.proofs.laws.first_trouble_is_met.Goals as goal

pub returns-clause-met : goal.returns-clause-met
returns-clause-met c = first_has

pub returns-clause-none : goal.returns-clause-none
returns-clause-none c = none_has
