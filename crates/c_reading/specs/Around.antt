-- What C-syntax has around the parts of an algorithm ("A PlusCal User's Manual, C-Syntax Version", appendix A).
use Rattle.tla_tree.specs.Lexical as tk
use Rattle.tla_tree.specs.Reader.{◌>>=◌, gives}
use Rattle.pcal_tree.specs.Grammar.{in_braces}
use Rattle.syntax_reading.specs.TokenReaders.{a_mark, Parts}
use Rattle.syntax_reading.specs.ReadWhole.{Frames}
use Rattle.c_reading.specs.ReadAlgorithm.{read_main}

-- braces; and what is read within them where the parts end
abbrev pub frames : Parts → Frames
frames m = record { opening = a_mark tk.open_brace; main = read_main m; closing = λ e. a_mark tk.close_brace >>= λ f. gives (in_braces e f) }
