-- Proves the law `expansions_are_within_the_limits`.
use Rattle.macro_expand.proofs.SizeLimits.{limits, all_counted}
use Rattle.macro_expand.proofs.laws.expansions_are_within_the_limits.Goals as goal

pub returns-clause-nodes : goal.returns-clause-nodes
returns-clause-nodes c = λ a h. (limits a h).0

pub returns-clause-expressions : goal.returns-clause-expressions
returns-clause-expressions c = λ a h. (limits a h).1

pub returns-clause-statements : goal.returns-clause-statements
returns-clause-statements c = λ a h. (limits a h).2

pub returns-clause-labels : goal.returns-clause-labels
returns-clause-labels c = λ a h. (limits a h).3

pub returns-clause-counted : goal.returns-clause-counted
returns-clause-counted c = all_counted
