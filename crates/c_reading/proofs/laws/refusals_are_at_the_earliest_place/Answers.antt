-- Proves the law `refusals_are_at_the_earliest_place`.
use Rattle.pcal_tree.specs.Grammar.{c_syntax}
use Rattle.syntax_reading.proofs.StopsOf.{refused_is_completed}
use Rattle.c_reading.specs.ReadAlgorithm.{read_algorithm}
use Rattle.c_reading.proofs.Stops.{reads_all}
use Rattle.c_reading.proofs.laws.refusals_are_at_the_earliest_place.Goals as goal

pub returns : goal.returns
returns c = refused_is_completed c_syntax read_algorithm reads_all
