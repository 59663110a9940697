-- What is wrong with the tokens of an algorithm, whatever they spell: words and signs that are left out, numbers that are too big, too many tokens.
use Rattle.std.specs.Prelude.{ℕ, Bool, true, false, ◌||◌, not, List, [], ◌∷◌, ◌++◌, drop, codes}
use Rattle.std.specs.List.{flat_map}
use Rattle.tla_token.specs.declared.rule.Rule.TheVariants.{LeftOutWord, TooMany}
use Rattle.tla_token.specs.declared.sign.Sign.TheVariants as sign
use Rattle.tla_token.specs.Limits.{most_tokens}
use Rattle.tla_token.specs.Signs.{is_among}
use Rattle.tla_token.specs.Words.{begins_fairness}
use Rattle.tla_token.specs.Lexemes.{Kind, name, one, other}
use Rattle.tla_token.specs.Tokens.{Token}
use Rattle.tla_token.specs.Offences.{Offence, offence_if, kind_offences}

-- ---- words and signs that are left out

abbrev pub left_out_words : List (List ℕ)
left_out_words =
    codes "CHOOSE" ∷ codes "LAMBDA" ∷ codes "RECURSIVE" ∷ codes "INSTANCE" ∷ codes "ENABLED" ∷ codes "UNCHANGED" ∷ []

-- `!` is the beginning of a path alone
abbrev pub begins_path : List Token → Bool
begins_path [] = false
begins_path (t ∷ ts) = by t.kind
  where
    by : Kind → Bool
    by (one sign.OpenSquare) = true
    by (one sign.Dot) = true
    by k = false

-- a token before others
abbrev pub is_left_out : Kind → List Token → Bool
is_left_out (name w) rest = is_among left_out_words w || begins_fairness w
is_left_out (other w) rest = true
is_left_out (one sign.Bang) rest = not (begins_path rest)
is_left_out k rest = false

abbrev pub left_out : List Token → List Offence
left_out [] = []
left_out (t ∷ ts) = offence_if (is_left_out t.kind ts) LeftOutWord t.at ++ left_out ts

-- ---- numbers, and too many tokens

-- numbers that are too big; strings that hold a mark of a comment are refused before there are tokens
abbrev pub number_offences : List Token → List Offence
number_offences ts = flat_map (λ t. kind_offences true t.at t.kind) ts

-- the first token past the limit
abbrev pub too_many_tokens : List Token → List Offence
too_many_tokens ts = by (drop most_tokens ts)
  where
    by : List Token → List Offence
    by [] = []
    by (t ∷ more) = (TooMany, t.at) ∷ []

abbrev pub algorithm_offences : List Token → List Offence
algorithm_offences ts = left_out ts ++ (number_offences ts ++ too_many_tokens ts)
