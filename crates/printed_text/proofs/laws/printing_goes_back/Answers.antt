-- Proves the law `printing_goes_back`.
use Rattle.printed_text.proofs.Back.{some_back, back}
use Rattle.printed_text.proofs.laws.printing_goes_back.Goals as goal

pub returns-clause-some : goal.returns-clause-some
returns-clause-some c = some_back

pub returns-clause-same : goal.returns-clause-same
returns-clause-same c = back
