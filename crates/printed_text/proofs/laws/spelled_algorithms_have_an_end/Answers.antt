-- Proves the law `spelled_algorithms_have_an_end`.
use Rattle.printed_text.proofs.EndFound.{spelled_end}
use Rattle.printed_text.proofs.laws.spelled_algorithms_have_an_end.Goals as goal

pub returns : goal.returns
returns c = spelled_end
