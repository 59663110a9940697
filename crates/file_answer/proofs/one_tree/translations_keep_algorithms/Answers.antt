-- Proves the law `translations_keep_algorithms`.
use Rattle.file_answer.proofs.SpelledInFile.{stand_there, stands_kept}
use Rattle.file_answer.proofs.one_tree.translations_keep_algorithms.Goals as goal

pub returns-clause-spelled : goal.returns-clause-spelled
returns-clause-spelled c = stand_there

pub returns-clause-kept : goal.returns-clause-kept
returns-clause-kept c = stands_kept
