-- Proves the law `tokens_are_refused_where_reading_stops`.
use Rattle.pcal_tree.specs.Grammar.{p_syntax}
use Rattle.syntax_reading.proofs.StopsOf.{refused_there, is_refused, refused_is_read_so}
use Rattle.p_reading.specs.ReadAlgorithm.{read_algorithm}
use Rattle.p_reading.proofs.Stops.{reads_all}
use Rattle.p_reading.proofs.laws.tokens_are_refused_where_reading_stops.Goals as goal

pub returns-clause-first : goal.returns-clause-first
returns-clause-first c = refused_there p_syntax read_algorithm reads_all

pub returns-clause-refused : goal.returns-clause-refused
returns-clause-refused c = is_refused p_syntax read_algorithm reads_all

pub returns-clause-syntax : goal.returns-clause-syntax
returns-clause-syntax c = refused_is_read_so p_syntax read_algorithm reads_all
