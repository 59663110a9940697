-- Proves the law `tokens_pass_where_they_are_read`.
use Rattle.pcal_tree.specs.Grammar.{c_syntax}
use Rattle.syntax_reading.proofs.StopsWithin.{limited_passes, passed_is_limited}
use Rattle.c_reading.specs.ReadAlgorithm.{read_algorithm, read_limited_algorithm}
use Rattle.c_reading.proofs.StopsWithin.{reads_within}
use Rattle.c_reading.proofs.laws.tokens_pass_where_they_are_read.Goals as goal

pub returns-clause-read : goal.returns-clause-read
returns-clause-read c = limited_passes c_syntax read_algorithm read_limited_algorithm reads_within

pub returns-clause-passes : goal.returns-clause-passes
returns-clause-passes c = passed_is_limited c_syntax read_algorithm read_limited_algorithm reads_within
