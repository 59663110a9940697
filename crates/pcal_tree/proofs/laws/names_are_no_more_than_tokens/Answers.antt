-- Proves the law `names_are_no_more_than_tokens`.
use Rattle.pcal_tree.proofs.LabelsWeighed.{names_of_labelled}
use Rattle.pcal_tree.proofs.NamesWeighed.{names_of_text}
use Rattle.pcal_tree.proofs.laws.names_are_no_more_than_tokens.Goals as goal

pub returns-clause-typed : goal.returns-clause-typed
returns-clause-typed c = names_of_text

pub returns-clause-labelled : goal.returns-clause-labelled
returns-clause-labelled c = names_of_labelled
