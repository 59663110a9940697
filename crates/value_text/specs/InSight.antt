-- The tokens that are in sight from a place of a text on, and what code finds of the first of them.
use Rattle.std.specs.Prelude.{◌≡◌, ◌⊎◌, map, IsTrue, ◌++◌, ℕ, ◌<◌, ◌≤◌, Bool, true, false, List, [], ◌∷◌, length, drop, Option, Some, None}
use Rattle.std.specs.List.{list_all}
use Rattle.tla_token.specs.declared.part.Class.{Class}
use Rattle.tla_token.specs.declared.part.Class.TheVariants as class
use Rattle.tla_token.specs.Signs.{spellings, is_sign}
use Rattle.tla_token.specs.Lexemes.{IsName, number_of, unquoted}
use Rattle.tla_token.specs.Tokens.{Piece, blank, line, lexeme, stretch}
use Rattle.tla_token.specs.Offences.{Part, sound}
use Rattle.tla_token.specs.Cut.{parts}
use Rattle.tla_token.specs.Scan.{inner}
use Rattle.tla_value.specs.ValueText.{Mark, word, number, quote, sign}
use Rattle.tla_value.specs.ValueSeen.{first_of, mark_of, is_no_block, ends_in_token}
use Rattle.value_text.specs.declared.token.Token.{Token}
use Rattle.value_text.specs.declared.token.Punct.{Punct}
use Rattle.value_text.specs.Puncts.{punct_word}

-- up to what is no part of a value
abbrev pub seen : List Part → List Mark
seen [] = []
seen (sound (lexeme k bytes) ∷ ps) = mark_of k ∷ seen ps
seen (sound (blank b) ∷ ps) = seen ps
seen (sound (line body) ∷ ps) = seen ps
seen (p ∷ ps) = []

unfoldable pub ahead : List ℕ → ℕ → List Mark
ahead bytes at = seen (parts (drop at bytes))

abbrev pub is_passed : Class → Bool
is_passed class.Blank = true
is_passed class.Line = true
is_passed c = false

abbrev pub is_token : Class → Bool
is_token class.Name = true
is_token class.Number = true
is_token class.Text = true
is_token (class.Sign s) = true
is_token class.Other = true
is_token c = false

-- the token of a class that these bytes are
abbrev pub IsToken : Class → List ℕ → Mark → Type 0
IsToken class.Name bytes m = (m ≡ word bytes) × IsName bytes
IsToken class.Number bytes m = m ≡ number (number_of bytes)
IsToken class.Text bytes m = (2 ≤ length bytes) × (w : List ℕ) × (unquoted (inner bytes) ≡ Some w) × (m ≡ quote w)
IsToken (class.Sign s) bytes m = m ≡ sign (first_of (spellings s))
IsToken class.Other bytes m = (w : List ℕ) × (m ≡ sign w) × (is_sign w ≡ false)
IsToken c bytes m = ⊥

-- from a place to another are these pieces, no comment in brackets among them
pub record Skipped (bytes : List ℕ) (at to : ℕ) : Type 0 where
  pub pieces : List Piece
  pub cut : parts (drop at bytes) ≡ map sound pieces ++ parts (drop to bytes)
  pub no_blocks : IsTrue (list_all is_no_block pieces)

-- and a token ends there, if there are any
pub record Moves (bytes : List ℕ) (at to : ℕ) : Type 0 where
  pub skipped : Skipped bytes at to
  pub ends : (skipped.pieces ≡ []) ⊎ IsTrue (ends_in_token skipped.pieces)

-- the first token in sight
pub record Comes (bytes : List ℕ) (at : ℕ) (t : Token) : Type 0 where
  pub low : at ≤ t.from
  pub some : t.from < t.to
  pub high : t.to ≤ length bytes
  pub mark : Mark
  pub token : IsToken t.class (stretch bytes t.from t.to) mark
  pub first : ahead bytes at ≡ mark ∷ ahead bytes t.to
  pub way : Moves bytes at t.to

abbrev pub Next : List ℕ → ℕ → Option Token → Type 0
Next bytes at None = ahead bytes at ≡ []
Next bytes at (Some t) = Comes bytes at t

-- whether this sign is the first token in sight; then it is passed
abbrev pub Passes : List ℕ → Punct → ℕ → ℕ → Bool → Type 0
Passes bytes p at to true = (ahead bytes at ≡ sign (punct_word p) ∷ ahead bytes to) × (at < to) × (to ≤ length bytes) × Moves bytes at to
Passes bytes p at to false = (to ≡ at) × ((r : List Mark) → ahead bytes at ≡ sign (punct_word p) ∷ r → ⊥)
