-- What is read in square brackets behind fields and `EXCEPT`.
use Rattle.std.specs.Prelude.{ℕ}
use Rattle.tla_token.specs.declared.place.Place.{Place}
use Rattle.tla_tree.specs.Lexical as tk
use Rattle.tla_tree.specs.Spelling.{Field, Phrase, fields, records, except}
use Rattle.tla_tree.specs.Reader.{Reader, Readers, ◌>>=◌, ended}

-- behind `[a`: `|-> e, b |-> f]`
abbrev pub fields_of : Readers → ℕ → Place → Field → Reader Phrase
fields_of d e p f = d.fields e tk.maps f >>= λ fs. ended e tk.close_square (λ s. fields p fs s)

-- behind `[a`: `: S, b : T]`
abbrev pub records_of : Readers → ℕ → Place → Field → Reader Phrase
records_of d e p f = d.fields e tk.colon f >>= λ fs. ended e tk.close_square (λ s. records p fs s)

-- behind `[f EXCEPT`: `![a] = e, !.b = f]`
abbrev pub changed : Readers → ℕ → Place → Phrase → Place → Reader Phrase
changed d e p a q = d.settings e >>= λ ss. ended e tk.close_square (λ s. except p a q ss s)
