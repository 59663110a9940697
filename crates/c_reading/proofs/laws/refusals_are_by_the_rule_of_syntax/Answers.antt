-- Proves the law `refusals_are_by_the_rule_of_syntax`.
use Rattle.pcal_tree.specs.Grammar.{c_syntax}
use Rattle.syntax_reading.proofs.StopsOf.{refused_by_syntax}
use Rattle.c_reading.specs.ReadAlgorithm.{read_algorithm}
use Rattle.c_reading.proofs.Stops.{reads_all}
use Rattle.c_reading.proofs.laws.refusals_are_by_the_rule_of_syntax.Goals as goal

pub returns : goal.returns
returns c = refused_by_syntax c_syntax read_algorithm reads_all
