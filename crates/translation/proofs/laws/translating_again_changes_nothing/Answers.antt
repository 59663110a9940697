-- Proves the law `translating_again_changes_nothing`.
use Rattle.translation.proofs.AgainFiles.{again_in_file, text_checked_again, text_written_again, one_text_again}
use Rattle.translation.proofs.AgainWritten.{region_again, put_again_there, text_again}
use Rattle.translation.proofs.laws.translating_again_changes_nothing.Goals as goal

pub returns-clause-alike : goal.returns-clause-alike
returns-clause-alike c = λ b x w o g a short fine outside put q there h e. (region_again b x w o g a short fine outside put q there h e, put_again_there b x w o g a short fine outside put q there h e, text_again b x w o g a short fine outside put q there h e)

pub returns-clause-files : goal.returns-clause-files
returns-clause-files c = again_in_file

pub returns-clause-accepted : goal.returns-clause-accepted
returns-clause-accepted c = text_checked_again

pub returns-clause-some : goal.returns-clause-some
returns-clause-some c = text_written_again

pub returns-clause-one : goal.returns-clause-one
returns-clause-one c = one_text_again
