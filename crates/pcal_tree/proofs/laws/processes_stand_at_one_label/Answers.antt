-- Proves the law `processes_stand_at_one_label`.
use Rattle.pcal_tree.proofs.OneStand.{stands_once}
use Rattle.pcal_tree.proofs.ClearLabels.{clear_labels}
use Rattle.pcal_tree.proofs.LabelledClear.{labelled_clear}
use Rattle.pcal_tree.proofs.laws.processes_stand_at_one_label.Goals as goal

pub returns-clause-once : goal.returns-clause-once
returns-clause-once c = stands_once

pub returns-clause-clear : goal.returns-clause-clear
returns-clause-clear c = clear_labels

pub returns-clause-added : goal.returns-clause-added
returns-clause-added c = labelled_clear
