-- Proves the law `tokens_are_read_or_refused`.
use Rattle.pcal_tree.specs.Grammar.{p_syntax}
use Rattle.syntax_reading.proofs.StopsWithin.{one_of_both, is_refused_there}
use Rattle.p_reading.specs.ReadAlgorithm.{read_algorithm, read_limited_algorithm}
use Rattle.p_reading.proofs.StopsWithin.{reads_within}
use Rattle.p_reading.proofs.laws.tokens_are_read_or_refused.Goals as goal

pub returns-clause-one : goal.returns-clause-one
returns-clause-one c = one_of_both p_syntax read_algorithm read_limited_algorithm reads_within

pub returns-clause-refused : goal.returns-clause-refused
returns-clause-refused c = is_refused_there p_syntax read_algorithm read_limited_algorithm reads_within
