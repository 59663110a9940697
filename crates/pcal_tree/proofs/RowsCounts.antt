-- Worked examples of counts and of forms that are open, by computation.
use Rattle.std.specs.Prelude.{ℕ, zero, suc, List, [], ◌∷◌, length, get_or, true, false, None, codes}
use Rattle.std.proofs.Common.{◌≡◌, refl}
use Rattle.tla_token.specs.declared.place.Place.{Place}
use Rattle.tla_token.specs.declared.rule.Rule.TheVariants.{TooMany}
use Rattle.tla_tree.specs.declared.op.Op.TheVariants as op
use Rattle.tla_tree.specs.Tree.{Word, Tree, node, strict, operator, name, no_trees, tree}
use Rattle.tla_tree.specs.Spelling.{Phrase}
use Rattle.tla_tree.specs.Spelling as spelled
use Rattle.tla_tree.specs.FirstStop.{Open, is_within}
use Rattle.pcal_tree.specs.Algorithm.{nowhere, Name, Declaration, unset, Definition, Macro, Statements, macro, skip, done, then, alone, Algorithm}
use Rattle.pcal_tree.specs.GrammarParts as part
use Rattle.pcal_tree.specs.GrammarP as p
use Rattle.pcal_tree.specs.GrammarC as c
use Rattle.pcal_tree.specs.Offences.{offence}
use Rattle.pcal_tree.specs.OffencesNames.{names_of}
use Rattle.pcal_tree.specs.OpenForms.{opens, simple_opens, p_statement, c_statement}
use Rattle.pcal_tree.specs.OffencesCounts.{first_past, deep_definitions, count_offences}
use Rattle.pcal_tree.proofs.RowsPrinted.{in_p_text, in_c_text}
use Rattle.pcal_tree.specs.Grammar.{spell}

-- ---- forms that are open

one_count_each_in_p : length (opens in_p_text) ≡ length (spell in_p_text [])
one_count_each_in_p = refl

one_count_each_in_c : length (opens in_c_text) ≡ length (spell in_c_text [])
one_count_each_in_c = refl

abbrev at : Place
at = nowhere

abbrev x : Phrase
x = spelled.name at (codes "x")

abbrev n : Word → Name
n w = record { word = w; place = at }

abbrev forms : ℕ → ℕ → Open
forms k d = record { expressions = k; statements = d }

-- x[x].a := (x)
left_sides : simple_opens 3 (part.assign (part.last_assignment (spelled.select (spelled.apply x at (spelled.last x) at) at (record { place = at; is_reserved = false; text = codes "a" })) at (spelled.brackets at x at)))
    ≡ forms 0 3 ∷ forms 1 3 ∷ forms 1 3 ∷ forms 1 3 ∷ forms 0 3 ∷ forms 0 3 ∷ forms 0 3 ∷ forms 1 3 ∷ forms 1 3 ∷ forms 1 3 ∷ []
left_sides = refl

-- call P(x + x)
arguments : simple_opens 0 (part.call at (n (codes "P")) (part.some_arguments at (spelled.last (spelled.infix_of x at op.Plus x)) at))
    ≡ forms 0 0 ∷ forms 0 0 ∷ forms 0 0 ∷ forms 0 0 ∷ forms 1 0 ∷ forms 1 0 ∷ forms 0 0 ∷ []
arguments = refl

abbrev skips : p.Sequence
skips = p.last_statement part.no_labels (p.simple (part.skip at)) None

-- if x then skip elsif x then skip end if
branches : p_statement 0 (p.branch at x at skips (p.else_if at x at skips p.no_else) at at)
    ≡ forms 0 1 ∷ forms 0 1 ∷ forms 0 1 ∷ forms 0 1 ∷ forms 0 2 ∷ forms 0 2 ∷ forms 0 2 ∷ forms 0 2 ∷ forms 0 1 ∷ forms 0 1 ∷ []
branches = refl

-- with x = x; x = x do skip end with
binds : p_statement 0 (p.with at (part.bind (n (codes "x")) false at x (part.by_semicolon at) (part.last_bind (n (codes "x")) false at x None)) at skips at at)
    ≡ forms 0 0 ∷ forms 0 1 ∷ forms 0 1 ∷ forms 0 1 ∷ forms 0 1 ∷ forms 0 2 ∷ forms 0 2 ∷ forms 0 2 ∷ forms 0 2 ∷ forms 0 2 ∷ forms 0 2 ∷ forms 0 2 ∷ []
binds = refl

-- while (x) { skip }
loop : c_statement 0 (c.while at at x at (c.labelled part.no_labels (c.compound at (c.last_statement (c.labelled part.no_labels (c.simple (part.skip at))) None) at)))
    ≡ forms 0 1 ∷ forms 0 1 ∷ forms 0 1 ∷ forms 0 1 ∷ forms 0 2 ∷ forms 0 2 ∷ forms 0 2 ∷ []
loop = refl

abbrev bracketed : ℕ → Phrase
bracketed zero = x
bracketed (suc k) = spelled.brackets at (bracketed k) at

-- of 201 brackets the last one is too many: after `x :=` it is the token of number 202, counted from 0
abbrev many_brackets : ℕ → List Open
many_brackets k = simple_opens 0 (part.assign (part.last_assignment x at (bracketed k)))

last_bracket : get_or (many_brackets 201) 202 (forms 0 0) ≡ forms 201 0
last_bracket = refl

too_deep : is_within (forms 201 0) ≡ false
too_deep = refl

bracket_before : is_within (get_or (many_brackets 201) 201 (forms 0 0)) ≡ true
bracket_before = refl

too_deep_statements : is_within (forms 0 101) ≡ false
too_deep_statements = refl

-- ---- counts

abbrev place : ℕ → Place
place k = record { line = 5; col = k }

abbrev algorithm : List Declaration → List Definition → List Macro → Algorithm
algorithm ds es ms = record { name = n (codes "R"); fair = false; globals = ds; definitions = es; macros = ms; procedures = []; main = alone (then (record { first = at; last = at }) skip done) }

-- k variables before others, each at the column of its number
abbrev variables : ℕ → List Declaration → List Declaration
variables zero ds = ds
variables (suc k) ds = variables k (record { name = record { word = codes "v"; place = place (suc k) }; start = unset } ∷ ds)

enough_variables : count_offences (algorithm (variables 1024 []) [] []) ≡ []
enough_variables = refl

too_many_variables : count_offences (algorithm (variables 1026 []) [] []) ≡ offence TooMany (place 1025)
too_many_variables = refl

-- of five names three are allowed
first_name_past : first_past 3 (names_of (variables 5 [])) ≡ offence TooMany (place 4)
first_name_past = refl

no_name_past : first_past 5 (names_of (variables 5 [])) ≡ []
no_name_past = refl

-- k macros before others, each but the first calling the one before it
abbrev calling : ℕ → Statements
calling zero = done
calling (suc k) = then (record { first = at; last = at }) (macro (k ∷ []) no_trees) done

abbrev chained : ℕ → List Macro → List Macro
chained zero ms = ms
chained (suc k) ms = chained k (record { name = record { word = k ∷ []; place = place k }; params = []; body = calling k } ∷ ms)

long_chain : count_offences (algorithm [] [] (chained 100 [])) ≡ []
long_chain = refl

too_long_chain : count_offences (algorithm [] [] (chained 101 [])) ≡ offence TooMany (place 100)
too_long_chain = refl

-- ---- definitions

abbrev name_of : Word → Tree
name_of w = node (name w) at no_trees

abbrev negated : ℕ → Tree → Tree
negated zero t = t
negated (suc k) t = node (strict (operator op.Not)) at (tree (negated k t) no_trees)

abbrev definition : Word → ℕ → Tree → Definition
definition w k t = record { name = record { word = w; place = place k }; params = []; body = t }

-- C nests k deep and uses B there, which so uses A
abbrev three : ℕ → List Definition
three k = definition (codes "A") 1 (negated 200 (name_of (codes "x"))) ∷ definition (codes "B") 2 (negated 200 (name_of (codes "A"))) ∷ definition (codes "C") 3 (negated k (name_of (codes "B"))) ∷ []

deep_definition : count_offences (algorithm [] (three 98) []) ≡ []
deep_definition = refl

too_deep_definition : count_offences (algorithm [] (three 99) []) ≡ offence TooMany (place 3)
too_deep_definition = refl

-- a parameter hides the definition of its name
hidden_definition : deep_definitions [] (definition (codes "A") 1 (negated 200 (name_of (codes "x"))) ∷ record { name = n (codes "B"); params = n (codes "A") ∷ []; body = negated 400 (name_of (codes "A")) } ∷ []) ≡ []
hidden_definition = refl
