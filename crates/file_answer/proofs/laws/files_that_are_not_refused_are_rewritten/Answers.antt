-- Proves the law `files_that_are_not_refused_are_rewritten`.
use Rattle.file_answer.proofs.Changed.{is_rewritten}
use Rattle.file_answer.proofs.laws.files_that_are_not_refused_are_rewritten.Goals as goal

pub returns : goal.returns
returns c = is_rewritten
