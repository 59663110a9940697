-- Worked examples of the machine that cuts a text byte by byte, by computation.
use Rattle.std.specs.Prelude.{◌≡◌, true, [], ◌∷◌, Some, codes}
use Rattle.std.proofs.Common.{refl}
use Rattle.tla_token.specs.declared.sign.Sign.TheVariants as sign
use Rattle.tla_token.specs.declared.part.Class.TheVariants as class
use Rattle.tla_token.specs.laws.Machine.{fresh, wordless, word, text, block, line, only, marks, one_part, stop, run_on, run_all, outlines}

of_a_comment : (run_on (only fresh) (codes "(* (* a *")).1 ≡ only (block 9 1 (Some 42))
of_a_comment = refl

of_a_comment_that_closes : run_on (only fresh) (codes "(*a*)") ≡ (one_part class.Block 5, only fresh)
of_a_comment_that_closes = refl

of_a_bad_string : run_on (only fresh) (codes "\"\\x\"") ≡ (one_part class.BadText 4, only fresh)
of_a_bad_string = refl

of_three_marks : run_on (only fresh) (codes "|-1") ≡ (record { class = class.Other; len = 1 } ∷ [], marks 45 49)
of_three_marks = refl

of_digits : (run_on (only fresh) (codes "1_2")).1 ≡ only (wordless (codes "1_2"))
of_digits = refl

of_a_name : (run_on (only fresh) (codes "1_x2")).1 ≡ only (word 4)
of_a_name = refl

of_two_pieces : run_all (only fresh) (codes "1_" ∷ codes "2<=x" ∷ []) ≡ outlines (codes "1_2<=x")
of_two_pieces = refl

of_a_sign_behind_a_backslash : run_on (only fresh) (codes "\\in ") ≡ (record { class = class.Sign sign.In; len = 3 } ∷ record { class = class.Blank; len = 1 } ∷ [], only fresh)
of_a_sign_behind_a_backslash = refl

of_a_line : (run_on (only fresh) (codes "\\* a")).1 ≡ only (line 4)
of_a_line = refl

of_a_string_in_its_escape : (run_on (only fresh) (codes "\"a\\")).1 ≡ only (text 3 true true)
of_a_string_in_its_escape = refl

a_line_ends_a_string : run_on (only fresh) (codes "\"a\n") ≡ (record { class = class.OpenText; len = 2 } ∷ record { class = class.Blank; len = 1 } ∷ [], only fresh)
a_line_ends_a_string = refl

a_string_that_is_open_at_the_end : stop (only (text 3 true true)) ≡ one_part class.OpenText 3
a_string_that_is_open_at_the_end = refl

digits_at_the_end : stop (only (wordless (codes "1_"))) ≡ record { class = class.Number; len = 1 } ∷ record { class = class.Other; len = 1 } ∷ []
digits_at_the_end = refl

-- why a state keeps digits and underscores: they are parts of their own at the end, and before a letter they are not

digits_first : outlines (codes "1_") ≡ record { class = class.Number; len = 1 } ∷ record { class = class.Other; len = 1 } ∷ []
digits_first = refl

digits_last : outlines (codes "_1") ≡ record { class = class.Other; len = 1 } ∷ record { class = class.Number; len = 1 } ∷ []
digits_last = refl

digits_first_in_a_name : outlines (codes "1_x") ≡ one_part class.Name 3
digits_first_in_a_name = refl

digits_last_in_a_name : outlines (codes "_1x") ≡ one_part class.Name 3
digits_last_in_a_name = refl
