-- Proves the law.
use Rattle.label_steps.proofs.DueLaws.{missing_first}
use Rattle.label_steps.proofs.laws.missing_labels_come_first.Goals as goal

pub returns : goal.returns
returns c = missing_first
