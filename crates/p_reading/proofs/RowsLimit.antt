-- Worked rows of reading P-syntax within the limits, by computation: where a form of statements is one too many.
use Rattle.std.proofs.Common.{◌≡◌, refl, ℕ, zero, suc, true, false, List, [], ◌∷◌, None, Ok, Err, codes}
use Rattle.tla_token.specs.declared.place.Place.{Place}
use Rattle.tla_token.specs.Places.{nowhere}
use Rattle.tla_token.specs.declared.rule.Rule.TheVariants.{TooDeep, Syntax}
use Rattle.tla_tree.specs.declared.op.Op.TheVariants as op
use Rattle.tla_tree.specs.Tree.{Word}
use Rattle.tla_tree.specs.Lexical.{Mark, Token, token}
use Rattle.tla_tree.specs.Lexical as tk
use Rattle.tla_tree.specs.Spelling as spelled
use Rattle.tla_tree.specs.Reader.{readers, readers_in}
use Rattle.pcal_tree.specs.GrammarParts as part
use Rattle.pcal_tree.specs.GrammarP.{simple, branch, no_else, last_statement}
use Rattle.pcal_tree.specs.Grammar.{Text, spell}
use Rattle.pcal_tree.specs.Grammar as g
use Rattle.syntax_reading.specs.Owners.{in_main}
use Rattle.p_reading.specs.Resume.{rest_of_all}
use Rattle.p_reading.specs.ReadStatements.{depth, rest, begin, bottom, inside, in_then, in_either, in_with, if_test, elsif_test, first_arm, none}
use Rattle.p_reading.specs.ReadAlgorithm.{read_algorithm, read_limited_algorithm}

abbrev at : Place
at = record { line = 1; col = 1 }

abbrev word : Word → Token
word x = token at (tk.word x)

abbrev key : Word → Token
key x = token at (tk.reserved x)

abbrev no_place : Word → Token
no_place w = token nowhere (tk.reserved w)

abbrev x : spelled.Phrase
x = spelled.name at (codes "x")

-- one body, in which one form is open
abbrev small : Text
small = record {
  head = g.algorithm at;
  name = spelled.named at (codes "A");
  around = g.to_end at at;
  variables = part.no_section;
  define = g.no_define;
  macros = [];
  procedures = [];
  main = g.begin at (last_statement part.no_labels (branch at x at (last_statement part.no_labels (simple (part.skip at)) None) no_else at at) None);
}

small_read : read_limited_algorithm (spell small []) ≡ Ok (small, [])
unfolding readers_in
small_read = refl

-- so many times `either`
abbrev eithers : ℕ → List Token → List Token
eithers zero ts = ts
eithers (suc k) ts = key (codes "either") ∷ eithers k ts

abbrev begun : ℕ → List Token → List Token
begun k ts = word (codes "--algorithm") ∷ word (codes "A") ∷ key (codes "begin") ∷ eithers k ts

-- the 101st `either`, and where any number may be open, the end of the comment
one_either_more : read_limited_algorithm (begun 101 []) ≡ Err (TooDeep, key (codes "either") ∷ [])
one_either_more = refl

as_many : read_limited_algorithm (begun 100 []) ≡ Err (Syntax, [])
as_many = refl

any_number : read_algorithm (begun 101 []) ≡ Err (Syntax, [])
any_number = refl

-- a `while` and an `if` are refused at their words, a `with` at the name of the bind that is too deep
one_while_more : read_limited_algorithm (begun 100 (key (codes "while") ∷ [])) ≡ Err (TooDeep, key (codes "while") ∷ [])
one_while_more = refl

one_if_more : read_limited_algorithm (begun 100 (key (codes "if") ∷ [])) ≡ Err (TooDeep, key (codes "if") ∷ [])
one_if_more = refl

one_bind_more : read_limited_algorithm (begun 100 (key (codes "with") ∷ word (codes "x") ∷ [])) ≡ Err (TooDeep, word (codes "x") ∷ [])
one_bind_more = refl

no_bind : read_limited_algorithm (begun 100 (key (codes "with") ∷ key (codes "do") ∷ [])) ≡ Err (Syntax, key (codes "do") ∷ [])
no_bind = refl

second_bind : read_limited_algorithm (begun 99 (key (codes "with") ∷ word (codes "x") ∷ token at (tk.sign op.Equal) ∷ word (codes "y") ∷ token at (tk.mark tk.comma) ∷ word (codes "z") ∷ [])) ≡ Err (TooDeep, word (codes "z") ∷ [])
unfolding readers_in
second_bind = refl

-- an `elsif` is a form inside its `if`
one_elsif_more : read_limited_algorithm (begun 99 (key (codes "if") ∷ word (codes "x") ∷ key (codes "then") ∷ key (codes "skip") ∷ key (codes "elsif") ∷ [])) ≡ Err (TooDeep, key (codes "elsif") ∷ [])
unfolding readers_in
one_elsif_more = refl

-- if x then .. elsif x then either .. with y = x, z \in x do ..
how_deep : depth
    (inside (in_with at (part.bind (spelled.named at (codes "y")) false at x (part.by_comma at) (part.last_bind (spelled.named at (codes "z")) true at x None)) at) none part.no_labels
    (inside (in_either (first_arm at)) none part.no_labels
    (inside (in_then (elsif_test (if_test at x at) (last_statement part.no_labels (simple (part.skip at)) None) at x at)) none part.no_labels bottom))) ≡ 5
how_deep = refl

-- after `either`: skip or skip end either
closes_either : rest (begin none part.no_labels (inside (in_either (first_arm at)) none part.no_labels bottom)) ≡ no_place (codes "skip") ∷ no_place (codes "or") ∷ no_place (codes "skip") ∷ no_place (codes "end") ∷ no_place (codes "either") ∷ []
closes_either = refl

-- in the main part: either .. goes on with skip or skip end either, and then the algorithm ends
closes_all : rest_of_all (in_main [] [] at) (begin none part.no_labels (inside (in_either (first_arm at)) none part.no_labels bottom))
    ≡ no_place (codes "skip") ∷ no_place (codes "or") ∷ no_place (codes "skip") ∷ no_place (codes "end") ∷ no_place (codes "either") ∷ no_place (codes "end") ∷ no_place (codes "algorithm") ∷ []
closes_all = refl
