-- Lexemes: the bytes that spell one token ("Specifying Systems", section 15.1).
use Rattle.std.specs.Prelude.{◌≡◌, ℕ, ◌+◌, ◌*◌, ◌-◌, ◌<◌, ◌≤◌, Bool, false, ◌||◌, ◌&&◌, not, nat_le, nat_eq, IsTrue, List, [], ◌∷◌, ◌++◌, length, Option, Some, None, if◌then◌else◌, fold}
use Rattle.std.specs.List.{list_any, list_all}
use Rattle.tla_token.specs.declared.sign.Sign.{Sign}
use Rattle.tla_token.specs.Signs.{spellings, is_among, is_sign}

-- ---- characters

abbrev pub is_letter : ℕ → Bool
is_letter b = (nat_le 97 b && nat_le b 122) || (nat_le 65 b && nat_le b 90)

abbrev pub is_digit : ℕ → Bool
is_digit b = nat_le 48 b && nat_le b 57

-- letters, digits and the underscore
abbrev pub is_word : ℕ → Bool
is_word b = is_letter b || is_digit b || nat_eq b 95

-- space, tab, LF and CR
abbrev pub is_blank : ℕ → Bool
is_blank b = nat_eq b 32 || nat_eq b 9 || nat_eq b 10 || nat_eq b 13

-- printable, and no blank
abbrev pub is_printed : ℕ → Bool
is_printed b = nat_le 33 b && nat_le b 126

-- a character of a string that stands for itself
abbrev pub is_plain : ℕ → Bool
is_plain b = not (nat_eq b 34) && not (nat_eq b 92) && nat_le 32 b && nat_le b 126

-- ---- names, numbers and strings

-- letters, digits and underscores, with a letter among them
abbrev pub IsName : List ℕ → Type 0
IsName w = IsTrue (list_all is_word w) × IsTrue (list_any is_letter w)

-- the number that digits stand for, the first being the highest
abbrev pub number_of : List ℕ → ℕ
number_of ds = fold (λ n b. 10 * n + (b - 48)) 0 ds

-- what stands for the character after a backslash
abbrev pub escaped : ℕ → Option ℕ
escaped b =
    if nat_eq b 34 || nat_eq b 92 then Some b
    else (if nat_eq b 116 then Some 9
    else (if nat_eq b 110 then Some 10
    else (if nat_eq b 102 then Some 12
    else (if nat_eq b 114 then Some 13 else None))))

abbrev pub in_front : Option ℕ → Option (List ℕ) → Option (List ℕ)
in_front (Some b) (Some w) = Some (b ∷ w)
in_front _ _ = None

-- the string that these bytes between quotes stand for
abbrev mutual
  pub unquoted : List ℕ → Option (List ℕ)
  unquoted [] = Some []
  unquoted (b ∷ bs) = if nat_eq b 92 then behind_backslash bs else in_front (if is_plain b then Some b else None) (unquoted bs)

  pub behind_backslash : List ℕ → Option (List ℕ)
  behind_backslash [] = None
  behind_backslash (b ∷ bs) = in_front (escaped b) (unquoted bs)

-- ---- signs that this profile has no use for

-- a printable character that is no sign by itself, or a backslash with a word that makes no sign
abbrev pub is_other : List ℕ → Bool
is_other [] = false
is_other (b ∷ []) = is_printed b && not (is_letter b || is_digit b || nat_eq b 34) && not (is_sign (b ∷ []))
is_other (b ∷ bs) = nat_eq b 92 && list_all is_word bs && list_any is_letter bs && not (is_sign (b ∷ bs))

-- ---- lexemes

pub data Kind : Type 0 where
  name : List ℕ → Kind  -- also a reserved word
  number : ℕ → Kind
  string : List ℕ → Kind  -- the string that it stands for
  one : Sign → Kind
  other : List ℕ → Kind  -- a sign that this profile leaves out

-- these bytes spell a token of this kind
abbrev pub IsLexeme : Kind → List ℕ → Type 0
IsLexeme (name w) bytes = (bytes ≡ w) × IsName w
IsLexeme (number n) bytes = (0 < length bytes) × IsTrue (list_all is_digit bytes) × (number_of bytes ≡ n)
IsLexeme (string w) bytes = (raw : List ℕ) × (bytes ≡ 34 ∷ (raw ++ 34 ∷ [])) × (unquoted raw ≡ Some w)
IsLexeme (one s) bytes = IsTrue (is_among (spellings s) bytes)
IsLexeme (other w) bytes = (bytes ≡ w) × IsTrue (is_other w)

-- no lexeme at the front of bytes ++ rest is longer than bytes
abbrev pub IsLongest : List ℕ → List ℕ → Type 0
IsLongest bytes rest = (k : Kind) (m more : List ℕ) → IsLexeme k m → bytes ++ rest ≡ m ++ more → length m ≤ length bytes
