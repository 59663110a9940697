-- Worked rows of what is missing behind tokens of an algorithm, by computation.
use Rattle.std.proofs.Common.{◌≡◌, refl, List, [], ◌∷◌, codes}
use Rattle.tla_token.specs.declared.place.Place.{Place}
use Rattle.tla_token.specs.Places.{nowhere}
use Rattle.tla_tree.specs.declared.op.Op.TheVariants as op
use Rattle.tla_tree.specs.Lexical.{Token, token}
use Rattle.tla_tree.specs.Lexical as tk
use Rattle.tla_tree.specs.Reader.{readers, readers_in}
use Rattle.tla_tree.specs.Wanted.{an_x, mark_at, number_at}
use Rattle.tla_tree.specs.NeedsLists.{needs}
use Rattle.pcal_tree.specs.GrammarParts.{word, key, mark}
use Rattle.syntax_reading.specs.Missing.{an_equal}
use Rattle.syntax_reading.specs.MissingParts.{a_close, no_list}
use Rattle.syntax_reading.specs.MissingSimple.{a_skip}
use Rattle.c_reading.specs.MissingStatements.{an_else}
use Rattle.c_reading.specs.Resume.{closing_brace, end_rest}
use Rattle.c_reading.specs.MissingAlgorithm.{a_block, completion}

abbrev at : Place
at = record { line = 1; col = 1 }

-- `--algorithm A {`, and the brace of the main part
abbrev head : List Token → List Token
head ts = word at (codes "--algorithm") (word at (codes "A") (mark at tk.open_brace ts))

abbrev body : List Token → List Token
body ts = head (mark at tk.open_brace ts)

-- `} }`
abbrev ends : List Token
ends = closing_brace end_rest

-- nothing: `--algorithm x { { skip } }`
at_first : completion [] ≡ word nowhere (codes "--algorithm") (word nowhere (codes "x") (mark nowhere tk.open_brace (a_block end_rest)))
unfolding readers_in needs
at_first = refl

-- `macro m`: its parameters and its body, and then the main part
in_macro : completion (head (key at (codes "macro") (word at (codes "m") []))) ≡ no_list (a_block (a_block end_rest))
unfolding readers_in needs
in_macro = refl

-- `if (x > (1`: the bracket of the expression and that of the `if`; then a statement, and another one after `else`
in_test : completion (body (key at (codes "if") (mark at tk.open_bracket (word at (codes "x") (token at (tk.sign op.Greater) ∷ mark at tk.open_bracket (token at (tk.number 1) ∷ [])))))) ≡ mark_at 0 tk.close_bracket ∷ a_close (a_skip (an_else ends))
unfolding readers_in needs
in_test = refl

-- `with (x`: what it is, the bracket, and a statement
in_with : completion (body (key at (codes "with") (mark at tk.open_bracket (word at (codes "x") [])))) ≡ an_equal (number_at 0 ∷ a_close (a_skip ends))
unfolding readers_in needs
in_with = refl

-- `either skip ;`: another branch
in_either : completion (body (key at (codes "either") (key at (codes "skip") (mark at tk.semicolon [])))) ≡ key nowhere (codes "or") (a_skip ends)
unfolding readers_in needs
in_either = refl

-- `a :`: a statement
after_label : completion (body (word at (codes "a") (mark at tk.colon []))) ≡ a_skip ends
unfolding readers_in needs
after_label = refl

-- a whole one misses nothing
whole : completion (body (key at (codes "skip") ends)) ≡ []
unfolding readers_in needs
whole = refl

-- `skip ;` and `{ skip }`: the list may end
at_divider : completion (body (key at (codes "skip") (mark at tk.semicolon []))) ≡ ends
unfolding readers_in needs
at_divider = refl

after_block : completion (body (mark at tk.open_brace (key at (codes "skip") (closing_brace [])))) ≡ ends
unfolding readers_in needs
after_block = refl

-- `x [ 1`: the bracket of a left side, and what is assigned
in_left : completion (body (word at (codes "x") (mark at tk.open_square (token at (tk.number 1) ∷ [])))) ≡ mark_at 0 tk.close_square ∷ mark nowhere tk.assigns (number_at 0 ∷ ends)
unfolding readers_in needs
in_left = refl

-- `define {`
in_define : completion (head (key at (codes "define") (mark at tk.open_brace []))) ≡ word nowhere an_x (mark nowhere tk.defines (number_at 0 ∷ closing_brace (a_block end_rest)))
unfolding readers_in needs
in_define = refl
