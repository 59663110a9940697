-- Proves the law `rewritten_files_hold_the_algorithm`.
use Rattle.printed_text.proofs.Rewritten.{some_rewritten, one_rewritten, rewritten_holds}
use Rattle.printed_text.proofs.laws.rewritten_files_hold_the_algorithm.Goals as goal

pub returns-clause-some : goal.returns-clause-some
returns-clause-some c = some_rewritten

pub returns-clause-one : goal.returns-clause-one
returns-clause-one c = one_rewritten

pub returns-clause-holds : goal.returns-clause-holds
returns-clause-holds c = rewritten_holds
