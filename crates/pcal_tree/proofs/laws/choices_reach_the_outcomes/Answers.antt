-- Proves the law `choices_reach_the_outcomes`.
use Rattle.pcal_tree.proofs.Choices.{walk_has, has_walk}
use Rattle.pcal_tree.proofs.laws.choices_reach_the_outcomes.Goals as goal

pub returns-clause-outcome : goal.returns-clause-outcome
returns-clause-outcome c = walk_has

pub returns-clause-reached : goal.returns-clause-reached
returns-clause-reached c = has_walk
