-- Worked rows of reading within a limit of open forms, by computation.
use Rattle.std.proofs.Common.{◌≡◌, ℕ, ◌+◌, List, [], ◌∷◌, Some, Ok, Err, refl, codes}
use Rattle.tla_token.specs.declared.rule.Rule.TheVariants.{TooDeep}
use Rattle.tla_tree.specs.declared.op.Op.TheVariants as op
use Rattle.tla_tree.specs.Lexical.{Token}
use Rattle.tla_tree.specs.Lexical as tk
use Rattle.tla_tree.specs.Spelling.{Phrase}
use Rattle.tla_tree.specs.Spelling as spelled
use Rattle.tla_tree.specs.Reader.{Out, readers, readers_in, free}
use Rattle.tla_tree.specs.Nesting.{text_nesting}
use Rattle.tla_tree.proofs.RowsStops.{at, w, s, m, name}

abbrev read_within : ℕ → List Token → Out Phrase
read_within b ts = (readers 80 (Some b)).expr 0 free ts

-- ---- brackets: each is one more

abbrev after_two : List Token
after_two = m 3 tk.open_bracket ∷ w 4 ∷ m 5 tk.close_bracket ∷ m 6 tk.close_bracket ∷ m 7 tk.close_bracket ∷ []

abbrev three : Phrase
three = spelled.brackets (at 1) (spelled.brackets (at 2) (spelled.brackets (at 3) (name 4) (at 5)) (at 6)) (at 7)

three_fit : read_within 3 (m 1 tk.open_bracket ∷ m 2 tk.open_bracket ∷ after_two) ≡ Ok (three, [])
unfolding readers_in
three_fit = refl

three_are_too_many : read_within 2 (m 1 tk.open_bracket ∷ m 2 tk.open_bracket ∷ after_two) ≡ Err (TooDeep, after_two)
unfolding readers_in
three_are_too_many = refl

-- ---- a chain: each operator is one more

abbrev chain_of : ℕ → List Token → List Token
chain_of c r = w c ∷ s (c + 1) op.Plus ∷ w (c + 2) ∷ s (c + 3) op.Plus ∷ w (c + 4) ∷ s (c + 5) op.Plus ∷ w (c + 6) ∷ r

abbrev chained : ℕ → Phrase
chained c = spelled.infix_of (spelled.infix_of (spelled.infix_of (name c) (at (c + 1)) op.Plus (name (c + 2))) (at (c + 3)) op.Plus (name (c + 4))) (at (c + 5)) op.Plus (name (c + 6))

chain_fits : read_within 3 (chain_of 1 []) ≡ Ok (chained 1, [])
unfolding readers_in
chain_fits = refl

chain_is_too_deep : read_within 2 (chain_of 1 []) ≡ Err (TooDeep, s 6 op.Plus ∷ w 7 ∷ [])
unfolding readers_in
chain_is_too_deep = refl

-- ---- behind `{x \in`: as a set for x, or as an element

-- `{a \in (a)`: the bracket is the second form, and as an element the third
abbrev bracketed : List Token → List Token
bracketed r = m 1 tk.open_brace ∷ w 2 ∷ s 3 op.In ∷ m 4 tk.open_bracket ∷ w 5 ∷ m 6 tk.close_bracket ∷ r

filter_fits : read_within 2 (bracketed (m 7 tk.colon ∷ w 8 ∷ m 9 tk.close_brace ∷ [])) ≡ Ok (spelled.filter (at 1) (at 2) (codes "a") (at 3) (spelled.brackets (at 4) (name 5) (at 6)) (at 7) (name 8) (at 9), [])
unfolding readers_in
filter_fits = refl

element_is_too_deep : read_within 2 (bracketed (m 7 tk.close_brace ∷ [])) ≡ Err (TooDeep, m 7 tk.close_brace ∷ [])
unfolding readers_in
element_is_too_deep = refl

element_fits : read_within 3 (bracketed (m 7 tk.close_brace ∷ [])) ≡ Ok (spelled.set_of (at 1) (spelled.last (spelled.infix_of (name 2) (at 3) op.In (spelled.brackets (at 4) (name 5) (at 6)))) (at 7), [])
unfolding readers_in
element_fits = refl

-- `{a \in a + a + a + a /\ ((((a))))`: with the chain of the sum to its left `/\` opens the fifth form, but to the right of an element the third. So the element is not
-- as deep as the set would be
abbrev four_brackets : List Token → List Token
four_brackets r = m 13 tk.open_bracket ∷ m 14 tk.open_bracket ∷ m 15 tk.open_bracket ∷ m 16 tk.open_bracket ∷ w 17 ∷ m 18 tk.close_bracket ∷ m 19 tk.close_bracket ∷ m 20 tk.close_bracket ∷ m 21 tk.close_bracket ∷ r

abbrev mixed : List Token → List Token
mixed r = m 1 tk.open_brace ∷ w 2 ∷ s 3 op.In ∷ chain_of 4 (s 11 op.And ∷ four_brackets r)

abbrev mixed_element : Phrase
mixed_element = spelled.set_of (at 1) (spelled.last (spelled.infix_of (spelled.infix_of (name 2) (at 3) op.In (chained 4)) (at 11) op.And (spelled.brackets (at 13) (spelled.brackets (at 14) (spelled.brackets (at 15) (spelled.brackets (at 16) (name 17) (at 18)) (at 19)) (at 20)) (at 21)))) (at 22)

its_nesting : text_nesting mixed_element ≡ 7
its_nesting = refl

mixed_fits : read_within 7 (mixed (m 22 tk.close_brace ∷ [])) ≡ Ok (mixed_element, [])
unfolding readers_in
mixed_fits = refl

mixed_is_too_deep : read_within 6 (mixed (m 22 tk.close_brace ∷ [])) ≡ Err (TooDeep, m 16 tk.open_bracket ∷ w 17 ∷ m 18 tk.close_bracket ∷ m 19 tk.close_bracket ∷ m 20 tk.close_bracket ∷ m 21 tk.close_bracket ∷ m 22 tk.close_brace ∷ [])
unfolding readers_in
mixed_is_too_deep = refl

-- and what only a set can be followed by is too deep
mixed_filter : read_within 7 (mixed (m 22 tk.colon ∷ w 23 ∷ m 24 tk.close_brace ∷ [])) ≡ Err (TooDeep, m 22 tk.colon ∷ w 23 ∷ m 24 tk.close_brace ∷ [])
unfolding readers_in
mixed_filter = refl
