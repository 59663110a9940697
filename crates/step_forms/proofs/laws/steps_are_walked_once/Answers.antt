-- Proves the law `steps_are_walked_once`.
use Rattle.step_forms.proofs.StepsLaws.{step_labels, steps_begin}
use Rattle.step_forms.proofs.laws.steps_are_walked_once.Goals as goal

pub returns-clause-labels : goal.returns-clause-labels
returns-clause-labels c = step_labels

pub returns-clause-begins : goal.returns-clause-begins
returns-clause-begins c = steps_begin
