-- Proves the law `what_passes_is_read`.
use Rattle.pcal_tree.specs.Grammar.{c_syntax}
use Rattle.syntax_reading.proofs.StopsOf.{read_passes, passed_is_read}
use Rattle.c_reading.specs.ReadAlgorithm.{read_algorithm}
use Rattle.c_reading.proofs.Stops.{reads_all}
use Rattle.c_reading.proofs.laws.what_passes_is_read.Goals as goal

pub returns-clause-read : goal.returns-clause-read
returns-clause-read c = read_passes c_syntax read_algorithm reads_all

pub returns-clause-passes : goal.returns-clause-passes
returns-clause-passes c = passed_is_read c_syntax read_algorithm reads_all
