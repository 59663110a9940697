-- Proves the law `sound_modules_are_accepted`.
use Rattle.run_answer.proofs.Choices.{right_accepted, one_right}
use Rattle.run_answer.proofs.laws.sound_modules_are_accepted.Goals as goal

pub returns-clause-accepted : goal.returns-clause-accepted
returns-clause-accepted c = right_accepted

pub returns-clause-one : goal.returns-clause-one
returns-clause-one c = one_right
