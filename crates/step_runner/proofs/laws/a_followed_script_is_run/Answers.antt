-- Proves the law `a_followed_script_is_run`.
use Rattle.step_runner.proofs.FollowedRuns.{followed_is_run}
use Rattle.step_runner.proofs.laws.a_followed_script_is_run.Goals as goal

pub returns : goal.returns
returns c = followed_is_run
