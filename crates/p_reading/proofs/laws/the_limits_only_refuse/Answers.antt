-- Proves the law `the_limits_only_refuse`.
use Rattle.pcal_tree.specs.Grammar.{p_syntax}
use Rattle.syntax_reading.proofs.StopsWithin.{read_within, fits_within}
use Rattle.p_reading.specs.ReadAlgorithm.{read_algorithm, read_limited_algorithm}
use Rattle.p_reading.proofs.StopsWithin.{reads_within}
use Rattle.p_reading.proofs.laws.the_limits_only_refuse.Goals as goal

pub returns-clause-within : goal.returns-clause-within
returns-clause-within c = read_within p_syntax read_algorithm read_limited_algorithm reads_within

pub returns-clause-fits : goal.returns-clause-fits
returns-clause-fits c = fits_within p_syntax read_algorithm read_limited_algorithm reads_within
