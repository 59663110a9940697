-- Proves the law `what_is_missing_completes`.
use Rattle.pcal_tree.specs.AlgorithmTokens.{views}
use Rattle.pcal_tree.specs.Grammar.{c_syntax}
use Rattle.syntax_reading.proofs.CompletedOf.{completed, refused_completes, limited_completes, completed_there}
use Rattle.c_reading.specs.ReadAlgorithm.{read_algorithm, read_limited_algorithm}
use Rattle.c_reading.proofs.Stops.{reads_all}
use Rattle.c_reading.proofs.StopsWithin.{reads_within}
use Rattle.c_reading.proofs.laws.what_is_missing_completes.Goals as goal

pub returns-clause-begun : goal.returns-clause-begun
unfolding reads_all
returns-clause-begun c = completed c_syntax read_algorithm reads_all

pub returns-clause-refused : goal.returns-clause-refused
unfolding reads_all
returns-clause-refused c = refused_completes c_syntax read_algorithm reads_all

pub returns-clause-within : goal.returns-clause-within
unfolding reads_all reads_within
returns-clause-within c = limited_completes c_syntax read_algorithm read_limited_algorithm reads_within

pub returns-clause-tokens : goal.returns-clause-tokens
unfolding reads_all
returns-clause-tokens c = λ ts end r a. completed_there c_syntax read_algorithm reads_all (views ts) a.passed r.rule a.stops
