-- Proves the law `each_run_by_a_script_is_followed`.
use Rattle.run_answer.proofs.ScriptsFollowed.{scripts_followed}
use Rattle.run_answer.proofs.laws.each_run_by_a_script_is_followed.Goals as goal

pub returns : goal.returns
returns c = scripts_followed
