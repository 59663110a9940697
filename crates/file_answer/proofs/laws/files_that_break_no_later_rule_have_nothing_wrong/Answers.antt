-- Proves the law `files_that_break_no_later_rule_have_nothing_wrong`.
use Rattle.file_answer.proofs.CheckedClean.{checked_clean}
use Rattle.file_answer.proofs.laws.files_that_break_no_later_rule_have_nothing_wrong.Goals as goal

pub returns : goal.returns
returns c = checked_clean
