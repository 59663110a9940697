-- Proves the law `bodies_of_procedures_are_labelled`.
use Rattle.running.proofs.LabelLaws.{procedures_begin_labelled}
use Rattle.running.proofs.laws.bodies_of_procedures_are_labelled.Goals as goal

pub returns : goal.returns
returns c = procedures_begin_labelled
