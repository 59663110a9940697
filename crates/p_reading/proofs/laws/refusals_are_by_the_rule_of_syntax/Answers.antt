-- Proves the law `refusals_are_by_the_rule_of_syntax`.
use Rattle.pcal_tree.specs.Grammar.{p_syntax}
use Rattle.syntax_reading.proofs.StopsOf.{refused_by_syntax}
use Rattle.p_reading.specs.ReadAlgorithm.{read_algorithm}
use Rattle.p_reading.proofs.Stops.{reads_all}
use Rattle.p_reading.proofs.laws.refusals_are_by_the_rule_of_syntax.Goals as goal

pub returns : goal.returns
returns c = refused_by_syntax p_syntax read_algorithm reads_all
