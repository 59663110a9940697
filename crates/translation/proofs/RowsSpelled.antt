-- Texts of algorithms as they are spelled, in few words: places, names and numbers.
use Rattle.std.proofs.Common.{ℕ}
use Rattle.tla_token.specs.declared.place.Place.{Place}
use Rattle.tla_tree.specs.Tree.{Word, Name}
use Rattle.tla_tree.specs.Spelling.{Phrase}
use Rattle.tla_tree.specs.Spelling as spelled

abbrev pub at : ℕ → ℕ → Place
at l k = record { line = l; col = k }

abbrev pub named : ℕ → ℕ → Word → Name
named l k w = record { word = w; place = at l k }

abbrev pub number : ℕ → ℕ → ℕ → Phrase
number l k n = spelled.number (at l k) n

abbrev pub name : ℕ → ℕ → Word → Phrase
name l k w = spelled.name (at l k) w
