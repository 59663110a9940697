-- Proves the law `limited_refusals_are_at_the_earliest_place`.
use Rattle.pcal_tree.specs.Grammar.{p_syntax}
use Rattle.syntax_reading.proofs.StopsWithin.{refused_through, refused_passes}
use Rattle.p_reading.specs.ReadAlgorithm.{read_algorithm, read_limited_algorithm}
use Rattle.p_reading.proofs.StopsWithin.{reads_within}
use Rattle.p_reading.proofs.laws.limited_refusals_are_at_the_earliest_place.Goals as goal

pub returns-clause-through : goal.returns-clause-through
returns-clause-through c = refused_through p_syntax read_algorithm read_limited_algorithm reads_within

pub returns-clause-passed : goal.returns-clause-passed
returns-clause-passed c = refused_passes p_syntax read_algorithm read_limited_algorithm reads_within
