-- What is read passes, and what is refused is refused at the first token that no algorithm has there: over kinds and columns.
use Rattle.pcal_tree.specs.Grammar.{c_syntax}
use Rattle.c_reading.specs.ReadAlgorithm.{read_algorithm}
use Rattle.c_reading.specs.MissingAlgorithm.{missing_algorithm}
use Rattle.c_reading.proofs.SoundAlgorithm.{read_is_spelled}
use Rattle.c_reading.proofs.WholeAlgorithm.{text_read}
use Rattle.c_reading.proofs.FairAlgorithm.{none_through, unspelled}
use Rattle.c_reading.proofs.MendAlgorithm.{refused_is_mended}
use Rattle.syntax_reading.proofs.StopsOf.{ReadsAll}

unfoldable pub reads_all : ReadsAll c_syntax read_algorithm
reads_all = record { spelled = read_is_spelled; through = none_through; unspelled = unspelled; again = text_read; missing = missing_algorithm; mended = refused_is_mended }
