-- Proves the law `files_are_rewritten_again`.
use Rattle.printed_text.proofs.Rewritten.{rewritten_again, rewritten_back, printed_already}
use Rattle.printed_text.proofs.laws.files_are_rewritten_again.Goals as goal

pub returns-clause-holds : goal.returns-clause-holds
returns-clause-holds c = rewritten_again

pub returns-clause-back : goal.returns-clause-back
returns-clause-back c = rewritten_back

pub returns-clause-same : goal.returns-clause-same
returns-clause-same c = printed_already
