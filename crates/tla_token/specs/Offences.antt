-- What is wrong with a stretch of text below its grammar: bytes and strings that make no token, open comments and strings, and in an
-- algorithm numbers that are too big. The least rule counts, at its first place.
use Rattle.std.specs.Prelude.{◌≡◌, ℕ, ◌+◌, Bool, true, false, ◌&&◌, ◌||◌, not, nat_eq, nat_le, nat_lt, IsTrue, List, [], ◌∷◌, ◌++◌, length, Option, Some, None, codes, if◌then◌else◌}
use Rattle.std.specs.List.{starts_with, list_any}
use Rattle.std.specs.Option.{is_none}
use Rattle.tla_token.specs.declared.rule.Rule.{Rule}
use Rattle.tla_token.specs.declared.rule.Rule.TheVariants.{NotAscii, BadToken, OpenComment, OpenString, NumberTooBig}
use Rattle.tla_token.specs.declared.rule.Refusal.{Refusal}
use Rattle.tla_token.specs.Places.{place_at}
use Rattle.tla_token.specs.Limits.{past_numbers}
use Rattle.tla_token.specs.Rules.{rule_number}
use Rattle.tla_token.specs.Lexemes.{Kind, number, string, is_blank, is_printed, escaped, unquoted}
use Rattle.tla_token.specs.Tokens.{Piece, lexeme, bytes_of, Fits, Closes, stretch, holds_mark}

-- a byte past 127, or a control byte that is no blank
abbrev pub is_stray : ℕ → Bool
is_stray b = not (is_blank b) && not (is_printed b)

-- ---- strings that are none

-- a byte that ends a string: its quote, or the line's end
abbrev pub ends_string : ℕ → Bool
ends_string b = nat_eq b 34 || nat_eq b 10

-- a tab or CR, which no string holds
abbrev pub breaks_string : ℕ → Bool
breaks_string b = nat_eq b 9 || nat_eq b 13

-- how many bytes after a quote belong to the string, a backslash with the byte after it
abbrev mutual
  pub string_len : List ℕ → ℕ
  string_len [] = 0
  string_len (b ∷ bs) = if nat_eq b 92 then 1 + escape_len bs else (if ends_string b then 0 else 1 + string_len bs)

  pub escape_len : List ℕ → ℕ
  escape_len [] = 0
  escape_len (b ∷ bs) = if nat_eq b 10 then 0 else 1 + string_len bs

-- a backslash before a byte that it does not go with
abbrev mutual
  pub has_bad_escape : List ℕ → Bool
  has_bad_escape [] = false
  has_bad_escape (b ∷ bs) = if nat_eq b 92 then is_bad_behind bs else has_bad_escape bs

  pub is_bad_behind : List ℕ → Bool
  is_bad_behind [] = true
  is_bad_behind (b ∷ bs) = is_none (escaped b) || has_bad_escape bs

-- ---- a text cut into parts, whatever is in it

pub data Part : Type 0 where
  sound : Piece → Part
  stray : ℕ → Part  -- a byte that is no blank and not printable
  bad_string : List ℕ → Part  -- between its quotes
  open_string : List ℕ → Part  -- after its quote, up to the line's end
  open_block : List ℕ → Part  -- after its opener

abbrev pub part_bytes : Part → List ℕ
part_bytes (sound p) = bytes_of p
part_bytes (stray b) = b ∷ []
part_bytes (bad_string raw) = 34 ∷ (raw ++ 34 ∷ [])
part_bytes (open_string raw) = 34 ∷ raw
part_bytes (open_block body) = codes "(*" ++ body

abbrev pub parts_text : List Part → List ℕ
parts_text [] = []
parts_text (p ∷ ps) = part_bytes p ++ parts_text ps

abbrev pub begins_with : ℕ → List ℕ → Bool
begins_with b bytes = starts_with nat_eq bytes (b ∷ [])

-- a part, before the rest
abbrev pub PartFits : Part → List ℕ → Type 0
PartFits (sound p) rest = Fits p rest
PartFits (stray b) rest = IsTrue (is_stray b)
PartFits (bad_string raw) rest = (string_len (raw ++ 34 ∷ rest) ≡ length raw) × (unquoted raw ≡ None)
PartFits (open_string raw) rest = (string_len (raw ++ rest) ≡ length raw) × (begins_with 34 rest ≡ false)
PartFits (open_block body) rest = (rest ≡ []) × ((m more : List ℕ) → body ≡ m ++ more → Closes 1 m → ⊥)

abbrev pub PartsFit : List Part → Type 0
PartsFit [] = Unit {0}
PartsFit (p ∷ ps) = PartFits p (parts_text ps) × PartsFit ps

-- ---- offences

-- a rule, and the index of the byte where it is broken
abbrev pub Offence : Type 0
Offence = Rule × ℕ

abbrev pub offence_if : Bool → Rule → ℕ → List Offence
offence_if b r at = if b then (r, at) ∷ [] else []

-- bytes past 127 and control bytes, in a text from this index on
abbrev pub byte_offences : ℕ → List ℕ → List Offence
byte_offences at [] = []
byte_offences at (b ∷ bs) = offence_if (is_stray b) (if nat_le 128 b then NotAscii else BadToken) at ++ byte_offences (at + 1) bs

-- a token that an algorithm can't have
abbrev pub kind_offences : Bool → ℕ → Kind → List Offence
kind_offences in_algorithm at (number n) = offence_if (in_algorithm && nat_le past_numbers n) NumberTooBig at
kind_offences in_algorithm at (string w) = offence_if (in_algorithm && holds_mark w) BadToken at
kind_offences in_algorithm at k = []

abbrev pub part_offences : Bool → ℕ → Part → List Offence
part_offences in_algorithm at (sound (lexeme k bytes)) = kind_offences in_algorithm at k
part_offences in_algorithm at (sound p) = []
part_offences in_algorithm at (stray b) = byte_offences at (b ∷ [])
part_offences in_algorithm at (bad_string raw) =
    offence_if (has_bad_escape raw || (in_algorithm && holds_mark raw)) BadToken at
    ++ (offence_if (list_any breaks_string raw) OpenString at ++ byte_offences (at + 1) raw)
part_offences in_algorithm at (open_string raw) = (OpenString, at) ∷ byte_offences (at + 1) raw
part_offences in_algorithm at (open_block body) = (OpenComment, at) ∷ []

abbrev pub offences : Bool → ℕ → List Part → List Offence
offences in_algorithm at [] = []
offences in_algorithm at (p ∷ ps) = part_offences in_algorithm at p ++ offences in_algorithm (at + length (part_bytes p)) ps

-- of two offences, that of the lesser rule; of one rule, that which comes first
abbrev pub earlier : Offence → Offence → Offence
earlier (r, at) (q, by) =
    if nat_lt (rule_number q) (rule_number r) || (nat_eq (rule_number q) (rule_number r) && nat_lt by at) then (q, by) else (r, at)

abbrev pub or_earlier : Offence → Option Offence → Option Offence
or_earlier o None = Some o
or_earlier o (Some q) = Some (earlier o q)

abbrev pub least : List Offence → Option Offence
least [] = None
least (o ∷ os) = or_earlier o (least os)

-- the bytes from `from` to `to` are refused so
pub record Offends (in_algorithm : Bool) (text : List ℕ) (from to : ℕ) (refusal : Refusal) : Type 0 where
  pub parts : List Part
  pub cut : stretch text from to ≡ parts_text parts
  pub fit : PartsFit parts
  pub at : ℕ
  pub first : least (offences in_algorithm from parts) ≡ Some (refusal.rule, at)
  pub place : refusal.place ≡ place_at text at
