-- Proves the law `what_is_wanted_completes`.
use Rattle.tla_tree.proofs.Completed.{completed, refused_completes}
use Rattle.tla_tree.proofs.LimitedStops.{limited_completes}
use Rattle.tla_tree.proofs.laws.what_is_wanted_completes.Goals as goal

pub returns-clause-begun : goal.returns-clause-begun
returns-clause-begun c = λ edge passed more a. completed edge passed more a

pub returns-clause-refused : goal.returns-clause-refused
returns-clause-refused c = refused_completes

pub returns-clause-within : goal.returns-clause-within
returns-clause-within c = limited_completes
