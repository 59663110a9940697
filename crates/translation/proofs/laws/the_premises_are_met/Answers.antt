-- Proves the law `the_premises_are_met`.
use Rattle.translation.proofs.RowsAdding.{adding_meets}
use Rattle.translation.proofs.RowsAddingFair.{adding_fair}
use Rattle.translation.proofs.RowsCounting.{counting_meets}
use Rattle.translation.proofs.RowsMarking.{marking_meets}
use Rattle.translation.proofs.RowsPicking.{picking_meets}
use Rattle.translation.proofs.laws.the_premises_are_met.Goals as goal

pub returns-clause-processes : goal.returns-clause-processes
returns-clause-processes c = adding_meets

pub returns-clause-fairness : goal.returns-clause-fairness
returns-clause-fairness c = adding_fair

pub returns-clause-one_body : goal.returns-clause-one_body
returns-clause-one_body c = counting_meets

pub returns-clause-set : goal.returns-clause-set
returns-clause-set c = picking_meets

pub returns-clause-option : goal.returns-clause-option
returns-clause-option c = marking_meets
