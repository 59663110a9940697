-- Proves the law `refusals_are_at_the_earliest_place`.
use Rattle.pcal_tree.specs.Grammar.{p_syntax}
use Rattle.syntax_reading.proofs.StopsOf.{refused_is_completed}
use Rattle.p_reading.specs.ReadAlgorithm.{read_algorithm}
use Rattle.p_reading.proofs.Stops.{reads_all}
use Rattle.p_reading.proofs.laws.refusals_are_at_the_earliest_place.Goals as goal

pub returns : goal.returns
returns c = refused_is_completed p_syntax read_algorithm reads_all
