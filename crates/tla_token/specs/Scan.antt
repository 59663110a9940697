-- What code finds in front of a text: the class and the length of its first part, and the number that digits stand for.
use Rattle.std.specs.Prelude.{◌≡◌, ℕ, ◌-◌, ◌^◌, ◌<◌, ◌≤◌, nat_lt, Bool, true, false, List, [], ◌∷◌, length, take, drop, get_or, Option, Some, None, option_map, unwrap_or, if◌then◌else◌}
use Rattle.std.specs.List.{list_any}
use Rattle.tla_token.specs.declared.part.Class.{Class}
use Rattle.tla_token.specs.declared.part.Class.TheVariants as class
use Rattle.tla_token.specs.declared.part.Part as code
use Rattle.tla_token.specs.Lexemes.{Kind, name, number, string, one, other, is_word, is_letter, number_of, unquoted}
use Rattle.tla_token.specs.Tokens.{Piece, blank, block, line, lexeme}
use Rattle.tla_token.specs.Offences.{Part, sound, stray, bad_string, open_string, open_block, part_bytes}
use Rattle.tla_token.specs.Cut.{run, part_at, lexeme_part, or_other, sign_of, sign_at, sign_part}

-- the number, if it fits in 128 bits
abbrev pub in_128_bits : ℕ → Option ℕ
in_128_bits n = if nat_lt n (2 ^ 128) then Some n else None

-- ---- parts

abbrev pub kind_class : Kind → Class
kind_class (name w) = class.Name
kind_class (number n) = class.Number
kind_class (string w) = class.Text
kind_class (one s) = class.Sign s
kind_class (other w) = class.Other

abbrev pub piece_class : Piece → Class
piece_class (blank b) = class.Blank
piece_class (block body) = class.Block
piece_class (line body) = class.Line
piece_class (lexeme k bytes) = kind_class k

abbrev pub part_class : Part → Class
part_class (sound p) = piece_class p
part_class (stray b) = class.Stray
part_class (bad_string raw) = class.BadText
part_class (open_string raw) = class.OpenText
part_class (open_block body) = class.OpenBlock

abbrev pub is_quoted : Class → Bool
is_quoted class.Text = true
is_quoted class.BadText = true
is_quoted c = false

-- between its quotes
abbrev pub inner : List ℕ → List ℕ
inner bytes = take (length bytes - 2) (drop 1 bytes)

-- the part of a class that these bytes make up
abbrev pub part_of : Class → List ℕ → Part
part_of class.Blank bytes = sound (blank (get_or bytes 0 0))
part_of class.Block bytes = sound (block (drop 2 bytes))
part_of class.Line bytes = sound (line (drop 2 bytes))
part_of class.Name bytes = sound (lexeme (name bytes) bytes)
part_of class.Number bytes = sound (lexeme (number (number_of bytes)) bytes)
part_of class.Text bytes = sound (lexeme (string (unwrap_or (unquoted (inner bytes)) [])) bytes)
part_of (class.Sign s) bytes = sound (lexeme (one s) bytes)
part_of class.Other bytes = sound (lexeme (other bytes) bytes)
part_of class.Stray bytes = stray (get_or bytes 0 0)
part_of class.BadText bytes = bad_string (inner bytes)
part_of class.OpenText bytes = open_string (drop 1 bytes)
part_of class.OpenBlock bytes = open_block (drop 2 bytes)

-- a part without its bytes
abbrev pub outline : Part → code.Part
outline p = record { class = part_class p; len = length (part_bytes p) }

-- the first part of a text, where this gives it
abbrev pub first_by : (ℕ → List ℕ → Part) → List ℕ → Option Part
first_by f [] = None
first_by f (b ∷ bs) = Some (f b bs)

-- what code finds in front
abbrev pub front_by : (ℕ → List ℕ → Part) → List ℕ → Option code.Part
front_by f text = option_map outline (first_by f text)

unfoldable pub front : List ℕ → Option code.Part
front text = front_by part_at text

-- where the text begins with no blank, string or comment
unfoldable pub lexeme_front : List ℕ → Option code.Part
lexeme_front text = front_by lexeme_part text

-- where it begins with a sign that is no word
unfoldable pub mark_front : List ℕ → code.Part
mark_front text = outline (sign_part (sign_at text) (get_or text 0 0) text)

-- what a backslash with a word is
unfoldable pub worded : List ℕ → code.Part
worded word = outline (or_other (sign_of word) word)

-- so many bytes in front are known to belong to a word without a letter
abbrev pub IsWordless : ℕ → List ℕ → Type 0
IsWordless n text = (n ≤ length (run is_word text)) × (0 < n → list_any is_letter (run is_word text) ≡ false)
