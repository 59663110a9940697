-- What P-syntax has around the parts of an algorithm ("A PlusCal User's Manual, P-Syntax Version", appendix A).
use Rattle.std.specs.Prelude.{codes}
use Rattle.tla_token.specs.Places.{nowhere}
use Rattle.tla_tree.specs.Reader.{Reader, ◌>>=◌, gives}
use Rattle.pcal_tree.specs.Grammar.{Around, to_end}
use Rattle.syntax_reading.specs.TokenReaders.{a_key, Parts}
use Rattle.syntax_reading.specs.ReadWhole.{Frames}
use Rattle.p_reading.specs.ReadAlgorithm.{read_main}

abbrev pub closing : Reader Around
closing = a_key (codes "end") >>= λ e. a_key (codes "algorithm") >>= λ f. gives (to_end e f)

-- nothing opens the parts; and two words close them
abbrev pub frames : Parts → Frames
frames m = record { opening = gives nowhere; main = read_main m; closing = λ p. closing }
