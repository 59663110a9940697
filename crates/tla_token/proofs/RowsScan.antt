-- Worked examples of readings and of what code finds in front of a text, by computation.
use Rattle.std.specs.Prelude.{◌≡◌, ℕ, ◌^◌, List, Some, None, codes}
use Rattle.std.proofs.Common.{refl, arith}
use Rattle.tla_token.specs.declared.fault.Reading.TheVariants as reading
use Rattle.tla_token.specs.declared.part.Class.TheVariants as class
use Rattle.tla_token.specs.declared.rule.Rule.TheVariants as rule
use Rattle.tla_token.specs.Lexemes.{string}
use Rattle.tla_token.specs.Tokens.{lexeme}
use Rattle.tla_token.specs.Offences.{sound}
use Rattle.tla_token.specs.Scan.{in_128_bits, part_of, front}
use Rattle.tla_token.specs.declared.token.Kind.TheVariants as kind
use Rattle.tla_token.specs.Readings.{first_offence, opening_of, given_offence}
use Rattle.tla_token.specs.TokensSeen.{IsCanonical}

an_algorithm : opening_of (codes "--algorithm A") ≡ Some (codes "--algorithm")
an_algorithm = refl

a_fair_one : opening_of (codes "--fair \n algorithm A") ≡ Some (codes "--fair")
a_fair_one = refl

no_blank_between : opening_of (codes "--fairalgorithm A") ≡ None
no_blank_between = refl

abbrev big_number : List ℕ
big_number = codes "x170 170141183460469231731687303715884105728"

a_number_that_is_read : first_offence reading.Read big_number 0 44 ≡ Some (rule.NumberTooBig, 5)
a_number_that_is_read = refl

a_number_passed_on : first_offence reading.Unread big_number 0 44 ≡ None
a_number_passed_on = refl

abbrev marked_string : List ℕ
marked_string = codes "x \"(*\""

a_mark_in_an_algorithm : first_offence reading.Algorithm marked_string 0 6 ≡ Some (rule.BadToken, 2)
a_mark_in_an_algorithm = refl

a_mark_elsewhere : first_offence reading.Read marked_string 0 6 ≡ None
a_mark_elsewhere = refl

-- a string in which an algorithm's stretch ends is looked at on its whole line
a_mark_past_the_end : given_offence (codes "--algorithm A \"*)\"") 0 15 ≡ Some (rule.BadToken, 14)
a_mark_past_the_end = refl

a_bad_escape_past_the_end : given_offence (codes "--algorithm A \"a\\q\"") 0 16 ≡ Some (rule.BadToken, 14)
a_bad_escape_past_the_end = refl

open_on_its_line : given_offence (codes "--algorithm A \"*)\n\"") 0 15 ≡ Some (rule.OpenString, 14)
open_on_its_line = refl

-- without a mark it isn't closed in its stretch
no_mark_past_the_end : given_offence (codes "--algorithm A \"a\"") 0 15 ≡ Some (rule.OpenString, 14)
no_mark_past_the_end = refl

a_mark_past_another_end : given_offence (codes "A \"*)\"") 0 3 ≡ Some (rule.OpenString, 2)
a_mark_past_another_end = refl

in_bits : in_128_bits (2 ^ 128) ≡ None
in_bits = refl

a_name_in_front : front (codes "x1 y") ≡ Some (record { class = class.Name; len = 2 })
unfolding front
a_name_in_front = refl

a_part_again : part_of class.Text (codes "\"a\\n\"") ≡ sound (lexeme (string (codes "a\n")) (codes "\"a\\n\""))
a_part_again = refl

-- ---- one form for each token

small_by_its_digits : IsCanonical (codes "1") (kind.BigNumber (record { from = 0; to = 1 })) → ⊥
small_by_its_digits h = omega arith

by_its_digits : IsCanonical (codes "x 340282366920938463463374607431768211456") (kind.BigNumber (record { from = 2; to = 41 }))
by_its_digits = omega arith

no_string_between : IsCanonical (codes "\"a\\q\"") (kind.Text (record { from = 1; to = 4 })) → ⊥
no_string_between h = absurd cc

a_string_between : IsCanonical (codes "\"a\\n\"") (kind.Text (record { from = 1; to = 4 }))
a_string_between = refl
