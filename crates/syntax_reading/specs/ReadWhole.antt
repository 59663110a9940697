-- Reading a whole algorithm, by readers of what the syntaxes spell in two ways ("A PlusCal User's Manual", section 3).
use Rattle.std.specs.Prelude.{ℕ, true}
use Rattle.tla_token.specs.declared.place.Place.{Place}
use Rattle.tla_tree.specs.Reader.{Reader, ◌>>=◌, gives}
use Rattle.pcal_tree.specs.Grammar.{Main, Around, Text}
use Rattle.syntax_reading.specs.TokenReaders.{a_name, Parts}
use Rattle.syntax_reading.specs.ReadParts.{read_section}
use Rattle.syntax_reading.specs.ReadAround.{read_head}
use Rattle.syntax_reading.specs.ReadRoutines.{Ways, read_macros, read_procedures, read_define}

-- what is spelled in two ways around the parts of an algorithm: what opens them behind its name, with the place of its `{`; what runs, with lists of so many steps; and what closes them
pub record Frames : Type 0 where
  pub opening : Reader Place
  pub main : ℕ → Reader Main
  pub closing : Place → Reader Around

abbrev pub read_whole : Parts → Ways → Frames → ℕ → Reader Text
read_whole m f g n =
    read_head >>= λ h. a_name >>= λ x. g.opening >>= λ e. read_section true m n >>= λ vs. read_define f n >>= λ d. read_macros f n >>= λ ms. read_procedures m f n >>= λ ps. g.main n >>= λ b.
    g.closing e >>= λ a. gives (record { head = h; name = x; around = a; variables = vs; define = d; macros = ms; procedures = ps; main = b })
