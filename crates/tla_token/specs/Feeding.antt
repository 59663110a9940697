-- A text that comes in pieces: which of its parts are decided by what has come, whatever comes next, and which bytes are kept until more comes.
use Rattle.std.specs.Prelude.{ℕ, ◌<◌, Bool, true, false, ◌&&◌, ◌||◌, not, nat_eq, nat_lt, nat_le, ◌≡◌, ◌⊎◌, IsTrue, List, [], ◌∷◌, ◌++◌, length, drop, map, ◌≤◌, fold, if◌then◌else◌}
use Rattle.std.specs.List.{list_all, list_any}
use Rattle.tla_token.specs.declared.part.Class.{Class}
use Rattle.tla_token.specs.declared.part.Class.TheVariants as class
use Rattle.tla_token.specs.declared.part.Part as code
use Rattle.tla_token.specs.Lexemes.{string, is_word}
use Rattle.tla_token.specs.Tokens.{blank, block, line, lexeme}
use Rattle.tla_token.specs.Offences.{Part, sound, stray, bad_string, open_string, open_block, parts_text}
use Rattle.tla_token.specs.Cut.{parts}
use Rattle.tla_token.specs.Scan.{outline}

-- whatever comes next, no lexeme in front goes past these bytes: a word, alone or behind a backslash, has ended; of other signs three bytes are here
abbrev pub is_settled : List ℕ → Bool
is_settled [] = false
is_settled (b ∷ bs) = if is_word b || nat_eq b 92 then list_any (λ c. not (is_word c)) bs else nat_le 2 (length bs)

-- a part before these bytes stays as it is, whatever comes behind them
abbrev pub stays : Part → List ℕ → Bool
stays (sound (blank b)) rest = true
stays (sound (block body)) rest = true
stays (sound (line body)) rest = nat_lt 0 (length rest)
stays (sound (lexeme (string w) bytes)) rest = true
stays (sound (lexeme k bytes)) rest = is_settled (bytes ++ rest)
stays (stray b) rest = true
stays (bad_string raw) rest = true
stays (open_string raw) rest = nat_lt 0 (length rest)
stays (open_block body) rest = false

-- whether the part that is in front of a text stays, by its class and length
abbrev pub stays_by : Class → ℕ → List ℕ → Bool
stays_by class.Blank n text = true
stays_by class.Block n text = true
stays_by class.Line n text = nat_lt n (length text)
stays_by class.Name n text = is_settled text
stays_by class.Number n text = is_settled text
stays_by class.Text n text = true
stays_by (class.Sign s) n text = is_settled text
stays_by class.Other n text = is_settled text
stays_by class.Stray n text = true
stays_by class.BadText n text = true
stays_by class.OpenText n text = nat_lt n (length text)
stays_by class.OpenBlock n text = false

-- the parts in front that stay
abbrev pub decided : List Part → List Part
decided [] = []
decided (x ∷ ps) = if stays x (parts_text ps) then x ∷ decided ps else []

-- the bytes from the first part on that may change
abbrev pub undecided : List Part → List ℕ
undecided [] = []
undecided (x ∷ ps) = if stays x (parts_text ps) then undecided ps else parts_text (x ∷ ps)

-- ---- feeding

-- what is known of a text of which some pieces have come
pub record Fed : Type 0 where
  pub parts : List Part  -- decided
  pub rest : List ℕ  -- the bytes behind them

abbrev pub nothing_fed : Fed
nothing_fed = record { parts = []; rest = [] }

abbrev pub feed : Fed → List ℕ → Fed
feed f piece = record { parts = f.parts ++ decided (parts (f.rest ++ piece)); rest = undecided (parts (f.rest ++ piece)) }

-- no more comes
abbrev pub finish : Fed → List Part
finish f = f.parts ++ parts f.rest

abbrev pub fed : List (List ℕ) → Fed
fed pieces = fold feed nothing_fed pieces

-- ---- what is kept

-- a part that goes on to the end of what has come
abbrev pub is_open : Part → Bool
is_open (sound (line body)) = true
is_open (open_string raw) = true
is_open (open_block body) = true
is_open x = false

-- a word, alone or behind a backslash, up to the end of these bytes
abbrev pub is_open_word : List ℕ → Bool
is_open_word [] = false
is_open_word (b ∷ bs) = (is_word b || nat_eq b 92) && list_all is_word bs

-- fewer than three bytes, or a word, comment or string that goes on to the end
abbrev pub IsKept : List ℕ → Type 0
IsKept bytes = (length bytes < 3) ⊎ IsTrue (is_open_word bytes) ⊎ ((x : Part) × (parts bytes ≡ x ∷ []) × IsTrue (is_open x))

-- so many bytes of a text are decided: their parts stand behind those that were there before, whatever comes
abbrev pub AreDecided : List ℕ → List code.Part → List code.Part → ℕ → Type 0
AreDecided text before so_far n = (n ≤ length text) × ((more : List ℕ) → before ++ map outline (parts (text ++ more)) ≡ so_far ++ map outline (parts (drop n text ++ more)))
