-- What is read in braces behind `{a`.
use Rattle.std.specs.Prelude.{ℕ}
use Rattle.tla_token.specs.declared.place.Place.{Place}
use Rattle.tla_tree.specs.Lexical as tk
use Rattle.tla_tree.specs.Spelling.{Phrase, last, more, set_of}
use Rattle.tla_tree.specs.Reader.{Reader, Readers, ◌>>=◌, ended}

-- nothing more
abbrev pub set_alone : ℕ → Place → Phrase → Reader Phrase
set_alone e p a = ended e tk.close_brace (λ s. set_of p (last a) s)

-- and behind a comma
abbrev pub set_before : Readers → ℕ → Place → Phrase → Place → Reader Phrase
set_before d e p a q = d.phrases e >>= λ xs. ended e tk.close_brace (λ s. set_of p (more a q xs) s)
