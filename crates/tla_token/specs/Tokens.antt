-- The tokens of a stretch of a text: it is cut into blanks, comments and lexemes, each lexeme the longest that is there
-- ("Specifying Systems", section 15.1; comments, section 3.5).
use Rattle.std.specs.Prelude.{◌≡◌, ℕ, zero, suc, ◌+◌, ◌-◌, Bool, true, false, ◌&&◌, ◌||◌, not, nat_eq, IsTrue, List, [], ◌∷◌, ◌++◌, length, take, drop, codes, MatchBool}
use Rattle.std.specs.List.{list_all, starts_with}
use Rattle.tla_token.specs.declared.place.Place.{Place}
use Rattle.tla_token.specs.Places.{after, place_at}
use Rattle.tla_token.specs.Signs.{is_among}
use Rattle.tla_token.specs.Lexemes.{Kind, name, string, IsLexeme, IsLongest, is_blank}

pub record Token : Type 0 where
  pub kind : Kind
  pub at : ℕ  -- the index of its first byte
  pub place : Place

pub data Piece : Type 0 where
  blank : ℕ → Piece
  block : List ℕ → Piece  -- a (* comment, after its opener
  line : List ℕ → Piece  -- a \* comment, after its opener
  lexeme : Kind → List ℕ → Piece

abbrev pub bytes_of : Piece → List ℕ
bytes_of (blank b) = b ∷ []
bytes_of (block body) = codes "(*" ++ body
bytes_of (line body) = codes "\\*" ++ body
bytes_of (lexeme k bytes) = bytes

abbrev pub text_of : List Piece → List ℕ
text_of [] = []
text_of (p ∷ ps) = bytes_of p ++ text_of ps

abbrev pub is_pair : ℕ → ℕ → ℕ → ℕ → Bool
is_pair x y a b = nat_eq a x && nat_eq b y

-- where d comments are open, these bytes end just at the end of the outermost
abbrev pub Closes : ℕ → List ℕ → Type 0
Closes zero [] = Unit {0}
Closes zero (a ∷ bs) = ⊥
Closes (suc d) [] = ⊥
Closes (suc d) (a ∷ []) = ⊥
Closes (suc d) (a ∷ b ∷ bs) = MatchBool (is_pair 40 42 a b) (Closes (suc (suc d)) bs) (MatchBool (is_pair 42 41 a b) (Closes d bs) (Closes (suc d) (b ∷ bs)))

-- a comment begins here
abbrev pub opens_comment : List ℕ → Bool
opens_comment bytes = starts_with nat_eq bytes (codes "(*") || starts_with nat_eq bytes (codes "\\*")

-- the text is at its end, or a line ends here
abbrev pub EndsLine : List ℕ → Type 0
EndsLine [] = Unit {0}
EndsLine (b ∷ bs) = b ≡ 10

-- a piece, before the rest
abbrev pub Fits : Piece → List ℕ → Type 0
Fits (blank b) rest = IsTrue (is_blank b)
Fits (block body) rest = Closes 1 body
Fits (line body) rest = IsTrue (list_all (λ b. not (nat_eq b 10)) body) × EndsLine rest
Fits (lexeme k bytes) rest = (opens_comment (bytes ++ rest) ≡ false) × IsLexeme k bytes × IsLongest bytes rest

abbrev pub AllFit : List Piece → Type 0
AllFit [] = Unit {0}
AllFit (p ∷ ps) = Fits p (text_of ps) × AllFit ps

abbrev pub tokens_of : Place → ℕ → List Piece → List Token
tokens_of p at [] = []
tokens_of p at (lexeme k bytes ∷ ps) = record { kind = k; at = at; place = p } ∷ tokens_of (after p bytes) (at + length bytes) ps
tokens_of p at (x ∷ ps) = tokens_of (after p (bytes_of x)) (at + length (bytes_of x)) ps

-- the bytes from `from` to `to`
abbrev pub stretch : List ℕ → ℕ → ℕ → List ℕ
stretch text from to = take (to - from) (drop from text)

-- the bytes from `from` to `to` of the text are these tokens, each with its place in the text
pub record Tok (text : List ℕ) (from to : ℕ) (ts : List Token) : Type 0 where
  pub pieces : List Piece
  pub cut : stretch text from to ≡ text_of pieces
  pub fit : AllFit pieces
  pub tokens : ts ≡ tokens_of (place_at text from) from pieces

-- ---- algorithms

-- an algorithm begins with one of these, each one token
abbrev pub openings : List (List ℕ)
openings = codes "--algorithm" ∷ codes "--fair" ∷ []

-- `(*` or `*)` is in it
abbrev pub holds_mark : List ℕ → Bool
holds_mark [] = false
holds_mark (b ∷ bs) = starts_with nat_eq (b ∷ bs) (codes "(*") || starts_with nat_eq (b ∷ bs) (codes "*)") || holds_mark bs

abbrev pub unmarked_kind : Kind → Bool
unmarked_kind (string w) = not (holds_mark w)
unmarked_kind k = true

-- no string of an algorithm holds a mark of a comment
abbrev pub is_unmarked : Token → Bool
is_unmarked t = unmarked_kind t.kind

-- the bytes from `from` to `to` are the tokens of an algorithm
pub record TokAlgorithm (text : List ℕ) (from to : ℕ) (ts : List Token) : Type 0 where
  pub opening : List ℕ
  pub is_opening : IsTrue (is_among openings opening)
  pub stands : IsTrue (starts_with nat_eq (stretch text from to) opening)
  pub more : List Token
  pub tok : Tok text (from + length opening) to more
  pub unmarked : IsTrue (list_all is_unmarked more)
  pub tokens : ts ≡ record { kind = name opening; at = from; place = place_at text from } ∷ more
