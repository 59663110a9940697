-- Worked examples of algorithms as they are spelled and printed, by computation.
use Rattle.std.proofs.Common.{◌≡◌, refl, arith, ℕ, ◌+◌, ◌++◌, List, [], ◌∷◌, Some, None, false, true, codes, drop, map}
use Rattle.std.specs.Fmt.{decimal}
use Rattle.std.proofs.lemmas.Fmt.{decimal_digit}
use Rattle.tla_token.specs.declared.place.Place.{Place}
use Rattle.tla_token.specs.declared.sign.Sign.TheVariants as sign
use Rattle.tla_token.specs.Lexemes.{Kind, name, number, one}
use Rattle.tla_token.specs.Lexemes as lexeme
use Rattle.tla_token.specs.Tokens.{Token}
use Rattle.tla_tree.specs.Lexical as tk
use Rattle.tla_tree.specs.declared.op.Op.TheVariants as op
use Rattle.tla_tree.specs.Tree.{Word, Tree, node, strict, operator, no_trees, tree}
use Rattle.tla_tree.specs.Tree as expr
use Rattle.tla_tree.specs.Spelling.{Phrase}
use Rattle.tla_tree.specs.Spelling as spelled
use Rattle.pcal_tree.specs.declared.mark.Mark.TheVariants as marked
use Rattle.pcal_tree.specs.Algorithm.{Name, Algorithm, Statement, assign, assignment, no_assignments, done, then, mark, alone, equals}
use Rattle.pcal_tree.specs.AlgorithmTokens.{kind_of, views}
use Rattle.tla_tree.specs.FirstStop.{looks, to_end, Begins, Passes}
use Rattle.pcal_tree.specs.GrammarParts as part
use Rattle.pcal_tree.specs.GrammarP as p
use Rattle.pcal_tree.specs.GrammarC as c
use Rattle.pcal_tree.specs.Grammar.{Text, p_syntax, c_syntax, SpellsP, SpellsC}
use Rattle.pcal_tree.specs.Grammar as text
use Rattle.pcal_tree.specs.OpenForms.{opens}
use Rattle.pcal_tree.specs.OffencesSyntax.{algorithms}
use Rattle.pcal_tree.specs.Printed.{PText, CText}

abbrev pub at : ℕ → ℕ → Place
at l k = record { line = l; col = k }

abbrev pub token : ℕ → ℕ → Kind → Token
token l k w = record { kind = w; at = 0; place = at l k }

abbrev pub n : ℕ → ℕ → Word → Name
n l k w = record { word = w; place = at l k }

abbrev name_at : ℕ → ℕ → Word → Tree
name_at l k w = node (expr.name w) (at l k) no_trees

abbrev number_at : ℕ → ℕ → ℕ → Tree
number_at l k m = node (expr.number m) (at l k) no_trees

abbrev sum_at : ℕ → ℕ → Tree → Tree → Tree
sum_at l k a b = node (strict (operator op.Plus)) (at l k) (tree a (tree b no_trees))

-- ---- one labelled assignment

-- x := x + 1, from a column of a line on
abbrev increment : ℕ → ℕ → Statement
increment l k = assign (assignment (name_at l k (codes "x")) (sum_at l (k + 5) (name_at l (k + 5) (codes "x")) (number_at l (k + 9) 1)) no_assignments)

abbrev counted : Algorithm
counted = record {
  name = n 1 13 (codes "Inc");
  fair = false;
  globals = record { name = n 2 11 (codes "x"); start = equals (number_at 2 15 0) } ∷ [];
  definitions = [];
  macros = [];
  procedures = [];
  main = alone (mark (n 4 3 (codes "A")) marked.Plain (then (record { first = at 4 6; last = at 4 15 }) (increment 4 6) done));
}

-- x := x + 1 on line 4
abbrev increment_tokens : List Token
increment_tokens =
    token 4 3 (name (codes "A")) ∷ token 4 4 (one sign.Colon)
    ∷ token 4 6 (name (codes "x")) ∷ token 4 8 (one sign.Assign) ∷ token 4 11 (name (codes "x")) ∷ token 4 13 (one sign.Plus) ∷ token 4 15 (number 1) ∷ token 4 16 (one sign.Semicolon) ∷ []

abbrev pub variable_tokens : List Token
variable_tokens = token 2 1 (name (codes "variables")) ∷ token 2 11 (name (codes "x")) ∷ token 2 13 (one sign.Equal) ∷ token 2 15 (number 0) ∷ token 2 16 (one sign.Semicolon) ∷ []

abbrev p_tokens : List Token
p_tokens =
    (token 1 1 (name (codes "--algorithm")) ∷ token 1 13 (name (codes "Inc")) ∷ variable_tokens) ++ (token 3 1 (name (codes "begin")) ∷ increment_tokens)
    ++ (token 5 1 (name (codes "end")) ∷ token 5 5 (name (codes "algorithm")) ∷ [])

abbrev c_tokens : List Token
c_tokens =
    (token 1 1 (name (codes "--algorithm")) ∷ token 1 13 (name (codes "Inc")) ∷ token 1 17 (one sign.OpenCurly) ∷ variable_tokens) ++ (token 3 1 (one sign.OpenCurly) ∷ increment_tokens)
    ++ (token 5 1 (one sign.CloseCurly) ∷ token 6 1 (one sign.CloseCurly) ∷ [])

-- the parts that both syntaxes share
abbrev variables : part.Section
variables = part.section (at 2 1) true (part.last_variable (n 2 11 (codes "x")) (part.equals (at 2 13) (spelled.number (at 2 15) 0)) (Some (part.by_semicolon (at 2 16))))

abbrev labels : part.Labels
labels = part.label (n 4 3 (codes "A")) (part.colon (at 4 4)) part.no_labels

abbrev move_phrase : part.Simple
move_phrase = part.assign (part.last_assignment (spelled.name (at 4 6) (codes "x")) (at 4 8) (spelled.infix_of (spelled.name (at 4 11) (codes "x")) (at 4 13) op.Plus (spelled.number (at 4 15) 1)))

abbrev text_of : text.Around → text.Main → Text
text_of r m = record { head = text.algorithm (at 1 1); name = n 1 13 (codes "Inc"); around = r; variables = variables; define = text.no_define; macros = []; procedures = []; main = m }

abbrev pub in_p_text : Text
in_p_text = text_of (text.to_end (at 5 1) (at 5 5)) (text.begin (at 3 1) (p.last_statement labels (p.simple move_phrase) (Some (at 4 16))))

in_p : SpellsP p_tokens counted
in_p = (in_p_text, search, refl, refl)

abbrev pub in_c_text : Text
in_c_text = text_of (text.in_braces (at 1 17) (at 6 1)) (text.block (at 3 1) (c.last_statement (c.labelled labels (c.simple move_phrase)) (Some (at 4 16))) (at 5 1) None)

in_c : SpellsC c_tokens counted
in_c = (in_c_text, search, refl, refl)

-- what begins it, in these columns and whatever lines
begins_so : Begins (algorithms p_syntax) (map Some ((tk.word (codes "--algorithm"), 1) ∷ (tk.word (codes "Inc"), 13) ∷ (tk.reserved (codes "variables"), 1) ∷ []))
begins_so = (drop 3 (to_end (views p_tokens)), opens in_p_text, (in_p_text, search, refl, refl))

-- ---- tokens that pass before one that doesn't

abbrev pub p_front : List Token
p_front = (token 1 1 (name (codes "--algorithm")) ∷ token 1 13 (name (codes "Inc")) ∷ variable_tokens) ++ (token 3 1 (name (codes "begin")) ∷ token 4 3 (name (codes "A")) ∷ token 4 4 (one sign.Colon) ∷ [])

abbrev pub c_front : List Token
c_front = (token 1 1 (name (codes "--algorithm")) ∷ token 1 13 (name (codes "Inc")) ∷ token 1 17 (one sign.OpenCurly) ∷ variable_tokens) ++ (token 3 1 (one sign.OpenCurly) ∷ token 4 3 (name (codes "A")) ∷ token 4 4 (one sign.Colon) ∷ [])

abbrev x_at : ℕ → Phrase
x_at k = spelled.name (at 4 k) (codes "x")

abbrev p_with : p.Statement → Text
p_with s = text_of (text.to_end (at 5 1) (at 5 5)) (text.begin (at 3 1) (p.last_statement labels s None))

-- `A: x := (x + ;` up to the semicolon at 4:16
abbrev open_sum : Text
open_sum = p_with (p.simple (part.assign (part.last_assignment (x_at 6) (at 4 8) (spelled.brackets (at 4 11) (spelled.infix_of (x_at 12) (at 4 14) op.Plus (x_at 16)) (at 4 17)))))

pub open_sum_passes : Passes (algorithms p_syntax) (map Some (looks (views (p_front ++ (token 4 6 (name (codes "x")) ∷ token 4 8 (one sign.Assign) ∷ token 4 11 (one sign.OpenRound) ∷ token 4 12 (name (codes "x")) ∷ token 4 14 (one sign.Plus) ∷ [])))))
open_sum_passes = (drop 15 (to_end (text.spell open_sum [])), opens open_sum, (open_sum, search, refl, refl), refl)

-- `A: x := ;` in C up to the semicolon at 4:11
abbrev open_assignment : Text
open_assignment = text_of (text.in_braces (at 1 17) (at 6 1)) (text.block (at 3 1) (c.last_statement (c.labelled labels (c.simple (part.assign (part.last_assignment (x_at 6) (at 4 8) (x_at 11))))) None) (at 5 1) None)

pub open_assignment_passes : Passes (algorithms c_syntax) (map Some (looks (views (c_front ++ (token 4 6 (name (codes "x")) ∷ token 4 8 (one sign.Assign) ∷ [])))))
open_assignment_passes = (drop 13 (to_end (text.spell open_assignment [])), opens open_assignment, (open_assignment, search, refl, refl), refl)

-- ---- what the grammar sees: a prime is no sign of an algorithm, a reserved word no name

no_prime : kind_of (lexeme.other (codes "'")) ≡ tk.other (codes "'")
no_prime = refl

reserved_word : kind_of (name (codes "begin")) ≡ tk.reserved (codes "begin")
reserved_word = refl

-- ---- its texts

zero_is : decimal 0 ≡ codes "0"
zero_is = decimal_digit 0 (omega arith)

one_is : decimal 1 ≡ codes "1"
one_is = decimal_digit 1 (omega arith)

printed_in_p : PText counted ≡ codes "--algorithm Inc\nvariables x = 0;\nbegin\n  A: x := x + 1;\nend algorithm"
printed_in_p = rw (zero_is, one_is) refl

printed_in_c : CText counted ≡ codes "--algorithm Inc {\nvariables x = 0;\n{\n  A: x := x + 1;\n}\n}"
printed_in_c = rw (zero_is, one_is) refl
