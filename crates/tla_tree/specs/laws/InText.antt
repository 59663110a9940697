-- The text of a tree within another text: how it is cut, and what its tokens spell, wherever it begins.
use Rattle.std.specs.Prelude.{◌≡◌, ℕ, Bool, true, not, List, [], ◌∷◌, ◌++◌, None}
use Rattle.tla_token.specs.declared.place.Place.{Place}
use Rattle.tla_token.specs.Lexemes.{is_word}
use Rattle.tla_token.specs.Tokens.{AllFit, tokens_of}
use Rattle.tla_token.specs.Tokens as text
use Rattle.tla_tree.specs.Tree.{Tree}
use Rattle.tla_tree.specs.TokenViews.{views}
use Rattle.tla_tree.specs.Spelling.{Phrase, Right, Good, spell, tree_of, head, primary, end_list}
use Rattle.tla_tree.specs.Written.{part, text_of}
use Rattle.tla_tree.specs.laws.Placeless.{tree_placeless}

-- the text ends, or goes on with a byte of no word
abbrev pub ends_word : List ℕ → Bool
ends_word [] = true
ends_word (b ∷ bs) = not (is_word b)

-- a phrase for these tokens, right of an edge, that has the tree, places aside, and that neither is nor ends with a list by columns
pub record IsSpelling (edge : ℕ) (is_operand : Bool) (t : Tree) (ts : List text.Token) : Type 0 where
  pub phrase : Phrase
  pub good : Good edge phrase
  pub tokens : views ts ≡ spell phrase []
  pub tree : tree_placeless (tree_of phrase) ≡ tree_placeless t
  pub unlisted : end_list phrase ≡ None
  pub operand : is_operand ≡ true → head phrase ≡ primary

-- what is written of the tree, as an operand or not, in pieces: they fit before all that begins with no byte of a word, and their tokens spell the tree, in
-- whatever place they begin
pub record IsCut (is_operand : Bool) (t : Tree) : Type 0 where
  pub pieces : List text.Piece
  pub bytes : text.text_of pieces ≡ text_of (part t is_operand [])
  pub fit : (rest : List text.Piece) → AllFit rest → ends_word (text.text_of rest) ≡ true → AllFit (pieces ++ rest)
  pub spelling : (edge : ℕ) (p : Place) (at : ℕ) → Right edge p → IsSpelling edge is_operand t (tokens_of p at pieces)
