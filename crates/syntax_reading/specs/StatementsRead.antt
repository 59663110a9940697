-- What readers of statements ask of tokens.
use Rattle.std.specs.Prelude.{Bool, ◌&&◌, List, is_some}
use Rattle.tla_tree.specs.Lexical.{Token}
use Rattle.tla_tree.specs.Lexical as tk
use Rattle.tla_tree.specs.Reader.{tail, is_mark}
use Rattle.syntax_reading.specs.TokenReaders.{first, name_of}

-- a name with a colon behind it
abbrev pub is_label : List Token → Bool
is_label ts = is_some (name_of (first ts).place (first ts).kind) && is_mark tk.colon (first (tail ts)).kind
