-- Proves the law `actions_of_labels_are_true_of_their_steps`.
use Rattle.tla_value.specs.Outside.{found}
use Rattle.pcal_tree.specs.Names.{naming}
use Rattle.action_builder.proofs.ActionsOfLabels.{label_true}
use Rattle.action_builder.proofs.label_laws.actions_of_labels_are_true_of_their_steps.Goals as goal

pub returns : goal.returns
returns c o g values extra v d k p t s w = label_true values (found o.definitions) g (naming g o) extra v d k p t s w
