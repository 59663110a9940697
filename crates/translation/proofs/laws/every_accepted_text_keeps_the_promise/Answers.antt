-- Proves the law `every_accepted_text_keeps_the_promise`.
use Rattle.translation.proofs.KeptAccepted.{stands_in_file}
use Rattle.translation.proofs.KeptPromise.{texts_keep_the_promise, some_whole, one_whole}
use Rattle.translation.proofs.laws.every_accepted_text_keeps_the_promise.Goals as goal

pub returns-clause-accepted : goal.returns-clause-accepted
returns-clause-accepted c = λ forced x right short a o stands has. stands_in_file forced x right a stands o has short

pub returns-clause-some : goal.returns-clause-some
returns-clause-some c = some_whole

pub returns-clause-one : goal.returns-clause-one
returns-clause-one c = one_whole

pub returns-clause-promise : goal.returns-clause-promise
returns-clause-promise c = texts_keep_the_promise
