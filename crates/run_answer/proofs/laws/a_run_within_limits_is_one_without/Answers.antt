-- Proves the law `a_run_within_limits_is_one_without`.
use Rattle.run_answer.proofs.Followed.{followed_below}
use Rattle.run_answer.proofs.laws.a_run_within_limits_is_one_without.Goals as goal

pub returns : goal.returns
returns c = followed_below
