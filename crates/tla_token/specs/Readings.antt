-- How a stretch of a text is looked at, and what is wrong with it then ("A PlusCal User's Manual", section 2.1).
use Rattle.std.specs.Prelude.{◌≡◌, ℕ, ◌+◌, Bool, true, false, ◌&&◌, nat_eq, List, [], ◌∷◌, ◌++◌, length, drop, Option, Some, None, codes, if◌then◌else◌}
use Rattle.std.specs.List.{starts_with}
use Rattle.tla_token.specs.declared.fault.Reading.{Reading}
use Rattle.tla_token.specs.declared.fault.Reading.TheVariants as reading
use Rattle.tla_token.specs.declared.rule.Refusal.{Refusal}
use Rattle.tla_token.specs.Places.{place_at}
use Rattle.tla_token.specs.Lexemes.{number, is_blank}
use Rattle.tla_token.specs.Tokens.{Token, lexeme, stretch, Tok, TokAlgorithm}
use Rattle.tla_token.specs.Offences.{Part, sound, open_string, part_bytes, Offence, kind_offences, part_offences, offences, or_earlier, least}
use Rattle.tla_token.specs.Cut.{run, parts}

abbrev pub is_algorithm : Reading → Bool
is_algorithm reading.Algorithm = true
is_algorithm r = false

-- a number that is too big
abbrev pub number_offences : ℕ → Part → List Offence
number_offences at (sound (lexeme (number n) bytes)) = kind_offences true at (number n)
number_offences at p = []

-- outside algorithms, in text that is read
abbrev pub read_offences : ℕ → List Part → List Offence
read_offences at [] = []
read_offences at (p ∷ ps) = (part_offences false at p ++ number_offences at p) ++ read_offences (at + length (part_bytes p)) ps

abbrev pub offences_in : Reading → ℕ → List Part → List Offence
offences_in reading.Unread at ps = offences false at ps
offences_in reading.Read at ps = read_offences at ps
offences_in reading.Algorithm at ps = offences true at ps

abbrev pub part_offences_in : Reading → ℕ → Part → List Offence
part_offences_in reading.Unread at p = part_offences false at p
part_offences_in reading.Read at p = part_offences false at p ++ number_offences at p
part_offences_in reading.Algorithm at p = part_offences true at p

-- of two offences that may be the one that counts
abbrev pub joined : Option Offence → Option Offence → Option Offence
joined None q = q
joined (Some o) q = or_earlier o q

-- ---- a string in which a stretch ends

-- where a part begins, if it is a string that isn't closed
abbrev pub quote_at : ℕ → Part → Option ℕ
quote_at at (open_string raw) = Some at
quote_at at p = None

-- the same of the last of these parts, behind one with this quote
abbrev pub last_quote : ℕ → Option ℕ → List Part → Option ℕ
last_quote at q [] = q
last_quote at q (p ∷ ps) = last_quote (at + length (part_bytes p)) (quote_at at p) ps

-- what is wrong in an algorithm with the first of these parts
abbrev pub first_part_offences : ℕ → List Part → List Offence
first_part_offences at [] = []
first_part_offences at (p ∷ ps) = part_offences true at p

-- what is wrong with the string behind this quote of a text, on its whole line
abbrev pub line_offence : List ℕ → Option ℕ → Option Offence
line_offence text None = None
line_offence text (Some at) = least (first_part_offences at (parts (drop at text)))

-- in an algorithm, a string in which the stretch ends is looked at on its whole line too
abbrev pub with_line : Reading → List ℕ → Option ℕ → Option Offence → Option Offence
with_line reading.Algorithm text q o = joined o (line_offence text q)
with_line r text q o = o

-- ---- the offence that counts

abbrev pub first_offence : Reading → List ℕ → ℕ → ℕ → Option Offence
first_offence r text from to =
    let ps = parts (stretch text from to) in
    with_line r text (last_quote from None ps) (least (offences_in r from ps))

-- the refusal of a stretch
abbrev pub IsRefused : Reading → List ℕ → ℕ → ℕ → Refusal → Type 0
IsRefused r text from to refusal = (at : ℕ) × (first_offence r text from to ≡ Some (refusal.rule, at)) × (refusal.place ≡ place_at text at)

-- ---- which stretch is an algorithm's

-- blanks and `algorithm`
abbrev pub names_algorithm : List ℕ → Bool
names_algorithm [] = false
names_algorithm (b ∷ bs) = is_blank b && starts_with nat_eq (drop (length (run is_blank (b ∷ bs))) (b ∷ bs)) (codes "algorithm")

-- the first token of an algorithm, where a stretch begins with `--algorithm`, or with `--fair`, blanks and `algorithm`
abbrev pub opening_of : List ℕ → Option (List ℕ)
opening_of bytes =
    if starts_with nat_eq bytes (codes "--algorithm") then Some (codes "--algorithm")
    else (if starts_with nat_eq bytes (codes "--fair") && names_algorithm (drop 6 bytes) then Some (codes "--fair") else None)

-- the tokens of a stretch that begins so
abbrev pub IsCutAs : Option (List ℕ) → List ℕ → ℕ → ℕ → List Token → Type 0
IsCutAs None text from to ts = Tok text from to ts
IsCutAs (Some w) text from to ts = TokAlgorithm text from to ts

-- the offence that counts in it, behind the first token of an algorithm
abbrev pub offence_as : Option (List ℕ) → List ℕ → ℕ → ℕ → Option Offence
offence_as None text from to = first_offence reading.Read text from to
offence_as (Some w) text from to = first_offence reading.Algorithm text (from + length w) to

-- the tokens of a stretch that is given to be read
abbrev pub AreTokens : List ℕ → ℕ → ℕ → List Token → Type 0
AreTokens text from to ts = IsCutAs (opening_of (stretch text from to)) text from to ts

abbrev pub given_offence : List ℕ → ℕ → ℕ → Option Offence
given_offence text from to = offence_as (opening_of (stretch text from to)) text from to

abbrev pub IsGivenRefused : List ℕ → ℕ → ℕ → Refusal → Type 0
IsGivenRefused text from to refusal = (at : ℕ) × (given_offence text from to ≡ Some (refusal.rule, at)) × (refusal.place ≡ place_at text at)
