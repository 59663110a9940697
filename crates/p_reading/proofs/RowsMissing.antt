-- Worked rows of what is missing behind tokens of an algorithm, by computation.
use Rattle.std.proofs.Common.{◌≡◌, refl, List, [], ◌∷◌, ◌++◌, map, codes}
use Rattle.tla_token.specs.declared.place.Place.{Place}
use Rattle.tla_token.specs.Places.{nowhere}
use Rattle.tla_tree.specs.declared.op.Op.{Op}
use Rattle.tla_tree.specs.declared.op.Op.TheVariants as op
use Rattle.tla_tree.specs.Tree.{Word}
use Rattle.tla_tree.specs.Lexical.{Mark, Token, token}
use Rattle.tla_tree.specs.Lexical as tk
use Rattle.tla_tree.specs.Reader.{readers, readers_in}
use Rattle.tla_tree.specs.Wanted.{mark_at, number_at}
use Rattle.tla_tree.specs.NeedsLists.{needs}
use Rattle.pcal_tree.specs.GrammarParts as part
use Rattle.syntax_reading.specs.Missing.{an_identifier, an_equal}
use Rattle.p_reading.specs.MissingAlgorithm.{completion}

abbrev at : Place
at = record { line = 1; col = 1 }

abbrev word : Word → Token
word x = token at (tk.word x)

abbrev key : Word → Token
key x = token at (tk.reserved x)

abbrev mark : Mark → Token
mark m = token at (tk.mark m)

abbrev sign : Op → Token
sign o = token at (tk.sign o)

-- --algorithm A
abbrev head : List Token
head = word (codes "--algorithm") ∷ word (codes "A") ∷ []

-- these words, wherever they stand
abbrev keys : List Word → List Token
keys ws = map (λ w. token nowhere (tk.reserved w)) ws

-- ---- around the statements
-- nothing: the shortest algorithm
at_first : completion [] ≡ token nowhere (tk.word (codes "--algorithm")) ∷ an_identifier (keys (codes "begin" ∷ codes "skip" ∷ codes "end" ∷ codes "algorithm" ∷ []))
at_first = refl

-- `procedure P (`: a parameter and the bracket, a body, and the main part
in_parameters : completion (head ++ key (codes "procedure") ∷ word (codes "P") ∷ mark tk.open_bracket ∷ [])
    ≡ an_identifier (part.mark nowhere tk.close_bracket (keys (codes "begin" ∷ codes "skip" ∷ codes "end" ∷ codes "procedure" ∷ codes "begin" ∷ codes "skip" ∷ codes "end" ∷ codes "algorithm" ∷ [])))
in_parameters = refl

-- `fair process`: which it is, and a body
in_process : completion (head ++ key (codes "fair") ∷ key (codes "process") ∷ []) ≡ an_identifier (an_equal (number_at 0 ∷ keys (codes "begin" ∷ codes "skip" ∷ codes "end" ∷ codes "process" ∷ codes "end" ∷ codes "algorithm" ∷ [])))
in_process = refl

-- `begin skip end algorithm`
whole : completion (head ++ key (codes "begin") ∷ key (codes "skip") ∷ key (codes "end") ∷ key (codes "algorithm") ∷ []) ≡ []
whole = refl

-- ---- in a list
abbrev in_list : List Token → List Token
in_list ts = completion (head ++ key (codes "begin") ∷ ts)

-- `if x > ( 1`: the bracket, the word after the test, a list, and the end of the `if`
in_test : in_list (key (codes "if") ∷ word (codes "x") ∷ sign op.Greater ∷ mark tk.open_bracket ∷ token at (tk.number 1) ∷ [])
    ≡ mark_at 0 tk.close_bracket ∷ keys (codes "then" ∷ codes "skip" ∷ codes "end" ∷ codes "if" ∷ codes "end" ∷ codes "algorithm" ∷ [])
unfolding readers_in needs
in_test = refl

-- `with x`
in_with : in_list (key (codes "with") ∷ word (codes "x") ∷ []) ≡ an_equal (number_at 0 ∷ keys (codes "do" ∷ codes "skip" ∷ codes "end" ∷ codes "with" ∷ codes "end" ∷ codes "algorithm" ∷ []))
in_with = refl

-- `while x do either skip ;`: the first branch wants another one
in_branch : in_list (key (codes "while") ∷ word (codes "x") ∷ key (codes "do") ∷ key (codes "either") ∷ key (codes "skip") ∷ mark tk.semicolon ∷ [])
    ≡ keys (codes "or" ∷ codes "skip" ∷ codes "end" ∷ codes "either" ∷ codes "end" ∷ codes "while" ∷ codes "end" ∷ codes "algorithm" ∷ [])
unfolding readers_in
in_branch = refl

-- `a :`: a statement
at_label : in_list (word (codes "a") ∷ mark tk.colon ∷ []) ≡ keys (codes "skip" ∷ codes "end" ∷ codes "algorithm" ∷ [])
at_label = refl

-- `if x then skip end`: the word of what ends
at_end : in_list (key (codes "if") ∷ word (codes "x") ∷ key (codes "then") ∷ key (codes "skip") ∷ key (codes "end") ∷ []) ≡ keys (codes "if" ∷ codes "end" ∷ codes "algorithm" ∷ [])
unfolding readers_in
at_end = refl

-- `skip ;`: the list may end
at_divider : in_list (key (codes "skip") ∷ mark tk.semicolon ∷ []) ≡ keys (codes "end" ∷ codes "algorithm" ∷ [])
unfolding readers_in
at_divider = refl

-- `x := 1 || y`: what is assigned beside
in_assignment : in_list (word (codes "x") ∷ mark tk.assigns ∷ token at (tk.number 1) ∷ mark tk.beside ∷ word (codes "y") ∷ []) ≡ part.mark nowhere tk.assigns (number_at 0 ∷ keys (codes "end" ∷ codes "algorithm" ∷ []))
unfolding readers_in needs
in_assignment = refl

-- `call P`: its brackets
in_call : in_list (key (codes "call") ∷ word (codes "P") ∷ []) ≡ part.mark nowhere tk.open_bracket (part.mark nowhere tk.close_bracket (keys (codes "end" ∷ codes "algorithm" ∷ [])))
in_call = refl

-- `if x then skip elsif`: a test
in_elsif : in_list (key (codes "if") ∷ word (codes "x") ∷ key (codes "then") ∷ key (codes "skip") ∷ key (codes "elsif") ∷ [])
    ≡ number_at 0 ∷ keys (codes "then" ∷ codes "skip" ∷ codes "end" ∷ codes "if" ∷ codes "end" ∷ codes "algorithm" ∷ [])
unfolding readers_in needs
in_elsif = refl
