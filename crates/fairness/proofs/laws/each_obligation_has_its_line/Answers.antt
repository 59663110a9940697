-- Proves the law `each_obligation_has_its_line`.
use Rattle.fairness.proofs.LinesByProcess.{lines_of_obligations}
use Rattle.fairness.proofs.laws.each_obligation_has_its_line.Goals as goal

pub returns : goal.returns
returns c = lines_of_obligations
