-- Proves the law `files_are_answered_as_they_are_split`.
use Rattle.file_answer.proofs.SplitDecides.{split_decides}
use Rattle.file_answer.proofs.laws.files_are_answered_as_they_are_split.Goals as goal

pub returns : goal.returns
returns c = split_decides
