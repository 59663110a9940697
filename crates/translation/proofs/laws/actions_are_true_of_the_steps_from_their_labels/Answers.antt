-- Proves the law `actions_are_true_of_the_steps_from_their_labels`.
use Rattle.translation.specs.laws.FreshReads.{readable}
use Rattle.translation.proofs.ActionTrue.{action_law}
use Rattle.translation.proofs.FairAll.{fairness_told}
use Rattle.translation.proofs.NextLaw.{items_ready}
use Rattle.translation.proofs.NextSingle.{single_clear}
use Rattle.translation.proofs.PreparedSteps.{prepared_law}
use Rattle.translation.proofs.laws.actions_are_true_of_the_steps_from_their_labels.Goals as goal

pub returns-clause-actions : goal.returns-clause-actions
returns-clause-actions c = action_law readable prepared_law items_ready single_clear

pub returns-clause-fairness : goal.returns-clause-fairness
returns-clause-fairness c = λ b title o g h values s t k is it sound. fairness_told readable prepared_law items_ready single_clear b title o g h values s t k is it sound
