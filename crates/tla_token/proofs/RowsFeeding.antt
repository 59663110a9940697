-- Worked examples of texts that come in pieces, by computation.
use Rattle.std.specs.Prelude.{◌≡◌, ℕ, true, false, List, [], ◌∷◌, codes}
use Rattle.std.proofs.Common.{inl, inr, refl, arith}
use Rattle.tla_token.specs.declared.sign.Sign.TheVariants as sign
use Rattle.tla_token.specs.declared.part.Class.TheVariants as class
use Rattle.tla_token.specs.Lexemes.{name, number, one}
use Rattle.tla_token.specs.Tokens.{blank, block, lexeme}
use Rattle.tla_token.specs.Offences.{sound, open_string, open_block}
use Rattle.tla_token.specs.Feeding.{is_settled, stays, stays_by, decided, undecided, fed, finish, is_open_word, IsKept, AreDecided}

a_word_that_goes_on : is_settled (codes "x1") ≡ false
a_word_that_goes_on = refl

a_word_that_has_ended : is_settled (codes "x1 ") ≡ true
a_word_that_has_ended = refl

a_sign_that_may_be_longer : is_settled (codes "<=") ≡ false
a_sign_that_may_be_longer = refl

a_sign_that_can_not : is_settled (codes "<=x") ≡ true
a_sign_that_can_not = refl

a_number_that_may_begin_a_name : stays (sound (lexeme (number 1) (codes "1"))) (codes "_") ≡ false
a_number_that_may_begin_a_name = refl

a_number_that_does_not : stays (sound (lexeme (number 1) (codes "1"))) (codes "_ ") ≡ true
a_number_that_does_not = refl

an_open_string : stays (open_string (codes "a")) [] ≡ false
an_open_string = refl

a_string_that_its_line_leaves_open : stays (open_string (codes "a")) (codes "\n") ≡ true
a_string_that_its_line_leaves_open = refl

by_its_class_a_line_that_goes_on : stays_by class.Line 4 (codes "\\* a") ≡ false
by_its_class_a_line_that_goes_on = refl

by_its_class_a_line_that_has_ended : stays_by class.Line 4 (codes "\\* a\n") ≡ true
by_its_class_a_line_that_has_ended = refl

by_its_class_a_sign : stays_by (class.Sign sign.AtMost) 2 (codes "<=") ≡ false
by_its_class_a_sign = refl

abbrev two_pieces : List (List ℕ)
two_pieces = codes "x |-" ∷ codes "> (* a *" ∷ []

of_two_pieces_are_decided : (fed two_pieces).parts ≡ sound (lexeme (name (codes "x")) (codes "x")) ∷ sound (blank 32) ∷ sound (lexeme (one sign.MapsTo) (codes "|->")) ∷ sound (blank 32) ∷ []
of_two_pieces_are_decided = refl

of_two_pieces_is_kept : (fed two_pieces).rest ≡ codes "(* a *"
of_two_pieces_is_kept = refl

of_one_piece_is_kept : (fed (codes "x |-" ∷ [])).rest ≡ codes "|-"
of_one_piece_is_kept = refl

a_third_piece_closes_the_comment : finish (fed (codes "x" ∷ codes "1(*" ∷ codes "*)" ∷ [])) ≡ sound (lexeme (name (codes "x1")) (codes "x1")) ∷ sound (block (codes "*)")) ∷ []
a_third_piece_closes_the_comment = refl

decided_before_a_word : decided (sound (blank 32) ∷ sound (lexeme (name (codes "x")) (codes "x")) ∷ []) ≡ sound (blank 32) ∷ []
decided_before_a_word = refl

undecided_is_the_word : undecided (sound (blank 32) ∷ sound (lexeme (name (codes "x")) (codes "x")) ∷ []) ≡ codes "x"
undecided_is_the_word = refl

a_word_behind_a_backslash : is_open_word (codes "\\lan") ≡ true
a_word_behind_a_backslash = refl

a_comment_is_kept : IsKept (codes "(* a")
a_comment_is_kept = inr (inr (open_block (codes " a"), refl, refl))

two_marks_are_kept : IsKept (codes "<=")
two_marks_are_kept = inl (omega arith)

a_word_is_kept : IsKept (codes "\\lan")
a_word_is_kept = inr (inl refl)

a_blank_is_decided : AreDecided (codes " x") [] (record { class = class.Blank; len = 1 } ∷ []) 1
a_blank_is_decided = (omega arith, λ more. refl)
