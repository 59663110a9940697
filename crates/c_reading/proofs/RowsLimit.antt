-- Worked rows of reading C-syntax within the limits, by computation: where a form of statements is one too many.
use Rattle.std.proofs.Common.{◌≡◌, refl, ℕ, zero, suc, List, [], ◌∷◌, Err, codes}
use Rattle.tla_token.specs.declared.place.Place.{Place}
use Rattle.tla_token.specs.Places.{nowhere}
use Rattle.tla_token.specs.declared.rule.Rule.TheVariants.{TooDeep, Syntax}
use Rattle.tla_tree.specs.Tree.{Word}
use Rattle.tla_tree.specs.Lexical.{Mark, TokenView, Token, token}
use Rattle.tla_tree.specs.Lexical as tk
use Rattle.pcal_tree.specs.GrammarParts.{no_labels}
use Rattle.syntax_reading.specs.Owners.{in_main}
use Rattle.c_reading.specs.ReadStatements.{begin, none, bottom, in_block, in_either, first_arm}
use Rattle.c_reading.specs.Resume.{rest_of_all}
use Rattle.c_reading.specs.ReadAlgorithm.{read_algorithm, read_limited_algorithm}

abbrev at : Place
at = record { line = 1; col = 1 }

abbrev word : Word → Token
word x = token at (tk.word x)

abbrev key : Word → Token
key x = token at (tk.reserved x)

abbrev mark : Mark → Token
mark m = token at (tk.mark m)

abbrev no_place : TokenView → Token
no_place k = token nowhere k

-- so many times `{`
abbrev braces : ℕ → List Token → List Token
braces zero ts = ts
braces (suc k) ts = mark tk.open_brace ∷ braces k ts

-- the braces of the algorithm and of its body are no compound statements
abbrev begun : ℕ → List Token → List Token
begun k ts = word (codes "--algorithm") ∷ word (codes "A") ∷ braces 2 (braces k ts)

-- the 101st `{`, and where any number may be open, the end of the comment
one_brace_more : read_limited_algorithm (begun 101 []) ≡ Err (TooDeep, mark tk.open_brace ∷ [])
one_brace_more = refl

as_many : read_limited_algorithm (begun 100 []) ≡ Err (Syntax, [])
as_many = refl

any_number : read_algorithm (begun 101 []) ≡ Err (Syntax, [])
any_number = refl

-- `while` and `either` are refused at their words, a `with` at the name of the bind that is too deep
one_while_more : read_limited_algorithm (begun 100 (key (codes "while") ∷ [])) ≡ Err (TooDeep, key (codes "while") ∷ [])
one_while_more = refl

one_either_more : read_limited_algorithm (begun 100 (key (codes "either") ∷ [])) ≡ Err (TooDeep, key (codes "either") ∷ [])
one_either_more = refl

one_bind_more : read_limited_algorithm (begun 100 (key (codes "with") ∷ mark tk.open_bracket ∷ word (codes "x") ∷ [])) ≡ Err (TooDeep, word (codes "x") ∷ [])
one_bind_more = refl

-- after the `;` of a first branch another one is a form less deep than what would be in it
one_in_branch : read_limited_algorithm (begun 99 (key (codes "either") ∷ mark tk.open_brace ∷ [])) ≡ Err (TooDeep, mark tk.open_brace ∷ [])
one_in_branch = refl

another_branch : read_limited_algorithm (begun 99 (key (codes "either") ∷ key (codes "skip") ∷ mark tk.semicolon ∷ key (codes "or") ∷ key (codes "skip") ∷ [])) ≡ Err (Syntax, [])
another_branch = refl

-- after both branches the list goes on where a form may open
after_branches : read_limited_algorithm (begun 99 (key (codes "either") ∷ key (codes "skip") ∷ key (codes "or") ∷ key (codes "skip") ∷ mark tk.semicolon ∷ mark tk.open_brace ∷ [])) ≡ Err (Syntax, [])
after_branches = refl

-- after `{ either` in the main part: skip or skip } } }
closes_all : rest_of_all (in_main [] [] at) (begin no_labels (in_either (first_arm no_labels at) (in_block no_labels at none (bottom none))))
    ≡ no_place (tk.reserved (codes "skip")) ∷ no_place (tk.reserved (codes "or")) ∷ no_place (tk.reserved (codes "skip")) ∷ no_place (tk.mark tk.close_brace) ∷ no_place (tk.mark tk.close_brace) ∷ no_place (tk.mark tk.close_brace) ∷ []
closes_all = refl
