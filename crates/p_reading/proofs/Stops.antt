-- What is read passes, and what is refused is refused at the first token that no algorithm has there: over kinds and columns.
use Rattle.pcal_tree.specs.Grammar.{p_syntax}
use Rattle.syntax_reading.proofs.StopsOf.{ReadsAll}
use Rattle.p_reading.specs.ReadAlgorithm.{read_algorithm}
use Rattle.p_reading.specs.MissingAlgorithm.{missing_algorithm}
use Rattle.p_reading.proofs.SoundAlgorithm.{read_is_spelled}
use Rattle.p_reading.proofs.WholeAlgorithm.{text_read}
use Rattle.p_reading.proofs.FairAlgorithm.{none_through, unspelled}
use Rattle.p_reading.proofs.MendAlgorithm.{refused_is_mended}

unfoldable pub reads_all : ReadsAll p_syntax read_algorithm
reads_all = record { spelled = read_is_spelled; through = none_through; unspelled = unspelled; again = text_read; missing = missing_algorithm; mended = refused_is_mended }
