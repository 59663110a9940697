-- Proves the law `spelled_algorithms_can_be_printed`.
use Rattle.printed_text.proofs.FitAlgorithm.{spelled_printable}
use Rattle.printed_text.proofs.laws.spelled_algorithms_can_be_printed.Goals as goal

pub returns : goal.returns
returns c = spelled_printable
