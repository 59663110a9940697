-- Worked examples of places, words and lexemes, by computation.
use Rattle.std.specs.Prelude.{◌≡◌, ℕ, List, [], ◌∷◌, ◌++◌, true, false, Option, Some, None, codes}
use Rattle.std.proofs.Common.{refl}
use Rattle.tla_token.specs.Places.{place_at}
use Rattle.tla_token.specs.Signs.{is_sign}
use Rattle.tla_token.specs.Words.{is_reserved, is_standard}
use Rattle.tla_token.specs.declared.rule.Rule.TheVariants as rule
use Rattle.tla_token.specs.declared.sign.Sign.TheVariants as sign
use Rattle.tla_token.specs.Lexemes.{Kind, name, number, string, one, other, number_of, unquoted, is_other}
use Rattle.tla_token.specs.Tokens.{Token, Closes}
use Rattle.tla_token.specs.Offences.{Offence, offences, least}
use Rattle.tla_token.specs.AlgorithmOffences.{left_out, number_offences, algorithm_offences}
use Rattle.tla_token.specs.Cut.{parts, tokens}

behind_a_tab : place_at (codes "ab\tc") 3 ≡ record { line = 1; col = 9 }
behind_a_tab = refl

on_the_next_line : place_at (codes "ab\n c") 4 ≡ record { line = 2; col = 2 }
on_the_next_line = refl

at_the_end : place_at (codes "ab") 2 ≡ record { line = 1; col = 3 }
at_the_end = refl

nested : Closes 1 (codes " a (* b *) c *)")
nested = tt

not_closed : Closes 1 (codes " a (* b *)") → ⊥
not_closed h = h

number_in_digits : number_of (codes "0012") ≡ 12
number_in_digits = refl

escapes : unquoted (codes "a\\n\\\\") ≡ Some (codes "a\n\\")
escapes = refl

bad_escape : unquoted (codes "a\\x") ≡ None
bad_escape = refl

member_sign : is_sign (codes "\\in") ≡ true
member_sign = refl

longer_word : is_other (codes "\\in2") ≡ true
longer_word = refl

bar : is_other (codes "|") ≡ true
bar = refl

two_bars : is_other (codes "||") ≡ false
two_bars = refl

words : is_reserved (codes "elsif") ≡ true
words = refl

fairness_word : is_reserved (codes "WF_vars") ≡ true
fairness_word = refl

proof_words_are_names : is_reserved (codes "QED") ≡ false
proof_words_are_names = refl

print_of_tlc : is_standard (codes "TLC" ∷ []) (codes "Print") ≡ true
print_of_tlc = refl

print_without_tlc : is_standard (codes "Integers" ∷ []) (codes "Print") ≡ false
print_without_tlc = refl

-- ---- tokens of whole texts

line_comment_and_tab : tokens (codes "\\* c\n\tx") ≡ record { kind = name (codes "x"); at = 6; place = record { line = 2; col = 9 } } ∷ []
line_comment_and_tab = refl

abbrev kinds : List Token → List Kind
kinds [] = []
kinds (t ∷ ts) = t.kind ∷ kinds ts

nested_comment : kinds (tokens (codes "x(* (* y *) z *)1x")) ≡ name (codes "x") ∷ name (codes "1x") ∷ []
nested_comment = refl

longest_signs : kinds (tokens (codes "<=><= <")) ≡ one sign.Equivalent ∷ one sign.AtMost ∷ one sign.Less ∷ []
longest_signs = refl

worded_signs : kinds (tokens (codes "\\in2 \\in \\1")) ≡ other (codes "\\in2") ∷ one sign.In ∷ one sign.Without ∷ number 1 ∷ []
worded_signs = refl

string_with_escape : kinds (tokens (codes "\"a\\\"b\":=12_")) ≡ string (codes "a\"b") ∷ one sign.Assign ∷ number 12 ∷ other (codes "_") ∷ []
string_with_escape = refl

synonyms : kinds (tokens (codes "\\lnot a # b /= c")) ≡ one sign.Not ∷ name (codes "a") ∷ one sign.NotEqual ∷ name (codes "b") ∷ one sign.NotEqual ∷ name (codes "c") ∷ []
synonyms = refl

-- no comment begins inside a sign, and a token of signs is the longest
no_comment_in_sign : kinds (tokens (codes "/\\*|->-..3")) ≡ one sign.And ∷ one sign.Times ∷ one sign.MapsTo ∷ one sign.Minus ∷ one sign.Range ∷ number 3 ∷ []
no_comment_in_sign = refl

-- a run with a letter is one name, and a run without one ends at its underscore
runs : kinds (tokens (codes "1_a _1 2_")) ≡ name (codes "1_a") ∷ other (codes "_") ∷ number 1 ∷ number 2 ∷ other (codes "_") ∷ []
runs = refl

-- `(*)` opens a comment
odd_opener : kinds (tokens (codes "(*) x *)y")) ≡ name (codes "y") ∷ []
odd_opener = refl

-- a tab goes from column 8 to 9 and from column 9 to 17
tab_stops : place_at (codes "1234567\t\tx") 9 ≡ record { line = 1; col = 17 }
tab_stops = refl

-- ---- offences, in an algorithm

abbrev wrong : List ℕ → Option Offence
wrong text = least (offences true 0 (parts text))

open_comment : wrong (codes "x (* a (* b *)") ≡ Some (rule.OpenComment, 2)
open_comment = refl

open_quote : wrong (codes "x := \"ab\n\"") ≡ Some (rule.OpenString, 5)
open_quote = refl

wrong_escape : wrong (codes "x \"a\\q\"") ≡ Some (rule.BadToken, 2)
wrong_escape = refl

-- a string with a backslash at the line's end isn't closed
backslash_at_the_end : wrong (codes "x \"a\\\n") ≡ Some (rule.OpenString, 2)
backslash_at_the_end = refl

marked_string : wrong (codes "x \"a(*\"") ≡ Some (rule.BadToken, 2)
marked_string = refl

high_byte : wrong (codes "\"a\nb" ++ 200 ∷ []) ≡ Some (rule.NotAscii, 4)
high_byte = refl

high_byte_in_comment : wrong (codes "(*" ++ 200 ∷ codes "*)") ≡ None
high_byte_in_comment = refl

largest_number : wrong (codes "170141183460469231731687303715884105727") ≡ None
largest_number = refl

number_too_big : wrong (codes "1 170141183460469231731687303715884105728") ≡ Some (rule.NumberTooBig, 2)
number_too_big = refl

-- a tab ends no string, and none holds one
tab_in_string : wrong (codes "x \"a\tb\"") ≡ Some (rule.OpenString, 2)
tab_in_string = refl

-- in a string that isn't closed a bad escape doesn't count
escape_in_open_string : wrong (codes "x \"a\\q(*\n") ≡ Some (rule.OpenString, 2)
escape_in_open_string = refl

escape_before_tab : wrong (codes "x \"a\\q\tb\"") ≡ Some (rule.BadToken, 2)
escape_before_tab = refl

-- a backslash takes a CR with it, so the string ends at the LF and is open
return_behind_backslash : wrong (codes "x \"a\\\r\n") ≡ Some (rule.OpenString, 2)
return_behind_backslash = refl

control_byte_in_string : wrong (codes "x \"a" ++ 1 ∷ codes "\"") ≡ Some (rule.BadToken, 4)
control_byte_in_string = refl

-- ---- tokens that an algorithm can't have

abbrev wrong_words : List ℕ
wrong_words = codes "x := CHOOSE y ! z ^ WF_v ![ !.a !"

words_left_out : left_out (tokens wrong_words) ≡ (rule.LeftOutWord, 5) ∷ (rule.LeftOutWord, 14) ∷ (rule.LeftOutWord, 18) ∷ (rule.LeftOutWord, 20) ∷ (rule.LeftOutWord, 32) ∷ []
words_left_out = refl

token_too_big : number_offences (tokens (codes "1 170141183460469231731687303715884105728 2")) ≡ (rule.NumberTooBig, 2) ∷ []
token_too_big = refl

largest_token : number_offences (tokens (codes "170141183460469231731687303715884105727")) ≡ []
largest_token = refl

few_tokens : algorithm_offences (tokens (codes "--x y")) ≡ []
few_tokens = refl
