-- Proves the law `macros_looked_at_once_refuse_alike`.
use Rattle.pcal_tree.proofs.RefusedAlike.{names_refused_alike, names_and_labels_refused_alike}
use Rattle.pcal_tree.proofs.laws.macros_looked_at_once_refuse_alike.Goals as goal

pub returns-clause-names : goal.returns-clause-names
returns-clause-names c = names_refused_alike

pub returns-clause-labels : goal.returns-clause-labels
returns-clause-labels c = names_and_labels_refused_alike
