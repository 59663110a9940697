-- Proves the law `tokens_pass_where_they_are_read`.
use Rattle.pcal_tree.specs.Grammar.{p_syntax}
use Rattle.syntax_reading.proofs.StopsWithin.{limited_passes, passed_is_limited}
use Rattle.p_reading.specs.ReadAlgorithm.{read_algorithm, read_limited_algorithm}
use Rattle.p_reading.proofs.StopsWithin.{reads_within}
use Rattle.p_reading.proofs.laws.tokens_pass_where_they_are_read.Goals as goal

pub returns-clause-read : goal.returns-clause-read
returns-clause-read c = limited_passes p_syntax read_algorithm read_limited_algorithm reads_within

pub returns-clause-passes : goal.returns-clause-passes
returns-clause-passes c = passed_is_limited p_syntax read_algorithm read_limited_algorithm reads_within
