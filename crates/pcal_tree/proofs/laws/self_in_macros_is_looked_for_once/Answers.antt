-- Proves the law `self_in_macros_is_looked_for_once`.
use Rattle.pcal_tree.proofs.SelfByMacro.{selves_alike, first_self}
use Rattle.pcal_tree.proofs.laws.self_in_macros_is_looked_for_once.Goals as goal

pub returns-clause-offences : goal.returns-clause-offences
returns-clause-offences c = selves_alike

pub returns-clause-first : goal.returns-clause-first
returns-clause-first c = first_self
