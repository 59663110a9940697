-- Proves the law `files_that_are_not_refused_hold_a_tree`.
use Rattle.file_answer.proofs.Unrefused.{unrefused_is_fine, unrefused_holds}
use Rattle.file_answer.proofs.laws.files_that_are_not_refused_hold_a_tree.Goals as goal

pub returns-clause-fine : goal.returns-clause-fine
returns-clause-fine c = unrefused_is_fine

pub returns-clause-held : goal.returns-clause-held
returns-clause-held c = unrefused_holds
