-- Which value is in a text at a place: the tokens from there on as the grammar of values sees them. Between them are blanks and comments
-- to the line's end alone.
use Rattle.std.specs.Prelude.{◌≡◌, ℕ, Bool, true, false, IsTrue, List, [], ◌∷◌, ◌++◌, ◌≤◌, length, drop}
use Rattle.std.specs.List.{list_all}
use Rattle.tla_token.specs.Signs.{spellings}
use Rattle.tla_token.specs.Lexemes.{Kind, one}
use Rattle.tla_token.specs.Lexemes as lexeme
use Rattle.tla_token.specs.Tokens.{Piece, block, text_of, Fits, stretch}
use Rattle.tla_token.specs.Tokens as text
use Rattle.tla_tree.specs.Tree.{Word}
use Rattle.tla_value.specs.Value.{Value}
use Rattle.tla_value.specs.ValueText.{Mark, word, number, quote, sign, Spells}

-- of the spellings of a sign the first
abbrev pub first_of : List Word → Word
first_of [] = []
first_of (w ∷ ws) = w

abbrev pub mark_of : Kind → Mark
mark_of (lexeme.name w) = word w
mark_of (lexeme.number n) = number n
mark_of (lexeme.string w) = quote w
mark_of (one s) = sign (first_of (spellings s))
mark_of (lexeme.other w) = sign w

abbrev pub marks_of : List Piece → List Mark
marks_of [] = []
marks_of (text.lexeme k bytes ∷ ps) = mark_of k ∷ marks_of ps
marks_of (p ∷ ps) = marks_of ps

abbrev pub is_no_block : Piece → Bool
is_no_block (block body) = false
is_no_block p = true

-- the pieces are cut from a text that goes on with the rest
abbrev pub FitBefore : List Piece → List ℕ → Type 0
FitBefore [] rest = Unit {0}
FitBefore (p ∷ ps) rest = Fits p (text_of ps ++ rest) × FitBefore ps rest

-- the last piece is a token
abbrev pub ends_in_token : List Piece → Bool
ends_in_token [] = false
ends_in_token (text.lexeme k bytes ∷ []) = true
ends_in_token (p ∷ []) = false
ends_in_token (p ∷ q ∷ ps) = ends_in_token (q ∷ ps)

-- the bytes of the text from `at` to `to`, the end of a token, spell the value
pub record SpellsFrom (bytes : List ℕ) (at to : ℕ) (v : Value) : Type 0 where
  pub inside : to ≤ length bytes
  pub pieces : List Piece
  pub cut : stretch bytes at to ≡ text_of pieces
  pub fit : FitBefore pieces (drop to bytes)
  pub no_blocks : IsTrue (list_all is_no_block pieces)
  pub ends : IsTrue (ends_in_token pieces)
  pub spells : Spells (marks_of pieces) v
