-- A text cut into its parts from left to right, as a function.
use Rattle.std.specs.Prelude.{ℕ, zero, suc, ◌+◌, ◌-◌, Bool, ◌&&◌, not, nat_eq, List, [], ◌∷◌, ◌++◌, length, take, drop, Option, Some, None, codes, if◌then◌else◌, take_while, find}
use Rattle.std.specs.List.{list_any, starts_with}
use Rattle.tla_token.specs.declared.sign.Sign.{Sign}
use Rattle.tla_token.specs.Places.{start}
use Rattle.tla_token.specs.Signs.{spellings, all_signs, is_among}
use Rattle.tla_token.specs.Lexemes.{name, number, string, one, other, is_word, is_letter, is_digit, is_blank, is_printed, number_of, unquoted}
use Rattle.tla_token.specs.Tokens.{Token, Piece, blank, block, line, lexeme, is_pair, tokens_of}
use Rattle.tla_token.specs.Offences.{Part, sound, stray, bad_string, open_string, open_block, part_bytes, string_len, begins_with}

-- the bytes at the front that pass a test
abbrev pub run : (ℕ → Bool) → List ℕ → List ℕ
run p bytes = take_while p bytes

abbrev pub plus : ℕ → Option ℕ → Option ℕ
plus n None = None
plus n (Some k) = Some (n + k)

-- how many bytes a comment takes of which d levels are open
abbrev pub comment_len : ℕ → List ℕ → Option ℕ
comment_len zero bytes = Some 0
comment_len (suc d) [] = None
comment_len (suc d) (a ∷ []) = None
comment_len (suc d) (a ∷ b ∷ bs) =
    if is_pair 40 42 a b then plus 2 (comment_len (suc (suc d)) bs)
    else (if is_pair 42 41 a b then plus 2 (comment_len d bs) else plus 1 (comment_len (suc d) (b ∷ bs)))

abbrev pub block_part : Option ℕ → List ℕ → Part
block_part None bytes = open_block bytes
block_part (Some n) bytes = sound (block (take n bytes))

abbrev pub closed_part : Option (List ℕ) → List ℕ → Part
closed_part None raw = bad_string raw
closed_part (Some w) raw = sound (lexeme (string w) (34 ∷ (raw ++ 34 ∷ [])))

-- after a quote: what belongs to the string, and what is after that
abbrev pub string_part : List ℕ → List ℕ → Part
string_part raw rest = if begins_with 34 rest then closed_part (unquoted raw) raw else open_string raw

abbrev pub spelling_at : List (List ℕ) → List ℕ → Option (List ℕ)
spelling_at ws bytes = find (λ w. starts_with nat_eq bytes w) ws

-- the longest sign that is no word is first among those that are here
abbrev pub sign_at : List ℕ → Option Sign
sign_at bytes = find (λ s. list_any (λ w. starts_with nat_eq bytes w) (spellings s)) all_signs

abbrev pub sign_of : List ℕ → Option Sign
sign_of w = find (λ s. is_among (spellings s) w) all_signs

abbrev pub or_other : Option Sign → List ℕ → Part
or_other None w = sound (lexeme (other w) w)
or_other (Some s) w = sound (lexeme (one s) w)

abbrev pub sign_bytes : Option (List ℕ) → List ℕ
sign_bytes None = []
sign_bytes (Some w) = w

abbrev pub sign_part : Option Sign → ℕ → List ℕ → Part
sign_part (Some s) b bytes = sound (lexeme (one s) (sign_bytes (spelling_at (spellings s) bytes)))
sign_part None b bytes = if is_printed b then sound (lexeme (other (b ∷ [])) (b ∷ [])) else stray b

-- what is neither a blank, a string nor a comment
abbrev pub lexeme_part : ℕ → List ℕ → Part
lexeme_part b bs =
    if list_any is_letter (run is_word (b ∷ bs)) then sound (lexeme (name (run is_word (b ∷ bs))) (run is_word (b ∷ bs)))
    else (if is_digit b then sound (lexeme (number (number_of (run is_digit (b ∷ bs)))) (run is_digit (b ∷ bs)))
    else (if nat_eq b 92 && list_any is_letter (run is_word bs) then or_other (sign_of (b ∷ run is_word bs)) (b ∷ run is_word bs)
    else sign_part (sign_at (b ∷ bs)) b (b ∷ bs)))

-- the first part of a text that isn't empty, where this gives its lexemes
abbrev pub part_by : (ℕ → List ℕ → Part) → ℕ → List ℕ → Part
part_by lexemes b bs =
    if is_blank b then sound (blank b)
    else (if nat_eq b 34 then string_part (take (string_len bs) bs) (drop (string_len bs) bs)
    else (if starts_with nat_eq (b ∷ bs) (codes "(*") then block_part (comment_len 1 (drop 1 bs)) (drop 1 bs)
    else (if starts_with nat_eq (b ∷ bs) (codes "\\*") then sound (line (run (λ c. not (nat_eq c 10)) (drop 1 bs)))
    else lexemes b bs)))

abbrev pub part_at : ℕ → List ℕ → Part
part_at b bs = part_by lexeme_part b bs

-- k bytes at the front belong to the part before
abbrev pub parts_at : ℕ → List ℕ → List Part
parts_at k [] = []
parts_at (suc k) (b ∷ bs) = parts_at k bs
parts_at zero (b ∷ bs) = part_at b bs ∷ parts_at (length (part_bytes (part_at b bs)) - 1) bs

abbrev pub parts : List ℕ → List Part
parts text = parts_at 0 text

abbrev pub pieces : List Part → List Piece
pieces [] = []
pieces (sound p ∷ ps) = p ∷ pieces ps
pieces (p ∷ ps) = pieces ps

-- the tokens of a text that is cut into sound parts
abbrev pub tokens : List ℕ → List Token
tokens text = tokens_of start 0 (pieces (parts text))
