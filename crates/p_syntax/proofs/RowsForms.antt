-- Worked rows of reading P-syntax, by computation: the forms that `Rows.antt` leaves out, each once.
use Rattle.std.proofs.Common.{◌≡◌, refl, ℕ, true, false, List, [], ◌∷◌, Some, None, Ok, Err, codes}
use Rattle.tla_token.specs.declared.place.Place.{Place}
use Rattle.tla_token.specs.declared.rule.Rule.TheVariants as rule
use Rattle.tla_token.specs.Places.{nowhere}
use Rattle.tla_tree.specs.declared.op.Op.TheVariants as op
use Rattle.tla_tree.specs.Tree.{Word, Name}
use Rattle.tla_tree.specs.Lexical.{Token, token}
use Rattle.tla_tree.specs.Lexical as tk
use Rattle.tla_tree.specs.Spelling.{Phrase, tree_of}
use Rattle.tla_tree.specs.Spelling as spelled
use Rattle.tla_tree.specs.Reader.{Out, readers, readers_in}
use Rattle.pcal_tree.specs.GrammarParts.{Simple, label, no_labels, colon, colon_minus, unset, equals, among, by_semicolon, by_comma, last_variable, variable, no_section, section, last_name, more_names, no_names, some_names, last_parameter, some_parameters, no_parameters, plain, last_definition, last_bind, no_arguments, some_arguments, last_assignment}
use Rattle.pcal_tree.specs.GrammarParts as part
use Rattle.pcal_tree.specs.GrammarP.{Sequence, sequence, simple, branch, with, no_else, last_statement, more_statements}
use Rattle.pcal_tree.specs.Grammar.{Text, spell}
use Rattle.pcal_tree.specs.Grammar as g
use Rattle.syntax_reading.specs.TokenReaders.{parts_of}
use Rattle.p_reading.specs.ReadStatements.{read_sequence}
use Rattle.algorithm_reader.specs.RoutinesRead.{identity_at, past_identity, identity_tree}
use Rattle.p_reading.specs.ReadAlgorithm.{read_algorithm}
use Rattle.p_reading.specs.Around.{frames, closing}

abbrev at : Place
at = record { line = 1; col = 1 }

abbrev n : Word → Name
n x = spelled.named at x

abbrev var : Word → Phrase
var x = spelled.name at x

abbrev num : ℕ → Phrase
num k = spelled.number at k

abbrev key : Word → Token
key x = token at (tk.reserved x)

abbrev read : List Token → Out Sequence
read ts = read_sequence (parts_of (readers 100 None)) 30 ts

-- a list of one statement, before `end`
abbrev IsRead : Sequence → Type 0
IsRead ss = read (sequence ss (key (codes "end") ∷ [])) ≡ Ok (ss, key (codes "end") ∷ [])

abbrev alone : Simple → Sequence
alone s = last_statement no_labels (simple s) None

-- ---- simple statements
-- x > 0
abbrev positive : Phrase
positive = spelled.infix_of (var (codes "x")) at op.Greater (num 0)

await_read : IsRead (alone (part.await at positive))
unfolding readers_in
await_read = refl

when_read : IsRead (alone (part.when at positive))
unfolding readers_in
when_read = refl

print_read : IsRead (alone (part.print at (spelled.tuple at (spelled.more (var (codes "x")) at (spelled.last (num 1))) at)))
unfolding readers_in
print_read = refl

assert_read : IsRead (alone (part.assert at (spelled.prefix_of at op.Not positive)))
unfolding readers_in
assert_read = refl

skip_read : IsRead (alone (part.skip at))
skip_read = refl

goto_read : IsRead (alone (part.goto at (n (codes "L"))))
goto_read = refl

return_read : IsRead (alone (part.return at))
return_read = refl

call_read : IsRead (alone (part.call at (n (codes "P")) (no_arguments at at)))
call_read = refl

macro_read : IsRead (alone (part.macro (n (codes "m")) (some_arguments at (spelled.more (num 0) at (spelled.last positive)) at)))
unfolding readers_in
macro_read = refl

assign_read : IsRead (alone (part.assign (last_assignment (var (codes "x")) at (num 1))))
unfolding readers_in
assign_read = refl

-- ---- labels, and statements in statements
-- A:- if x > 0 then skip end if; B: await x > 0;
labels_read : IsRead (more_statements (label (n (codes "A")) (colon_minus at at) no_labels) (branch at positive at (alone (part.skip at)) no_else at at) at
    (last_statement (label (n (codes "B")) (colon at) no_labels) (simple (part.await at positive)) (Some at)))
unfolding readers_in
labels_read = refl

-- with y \in S do print y end with
with_read : IsRead (last_statement no_labels (with at (last_bind (n (codes "y")) true at (var (codes "S")) None) at (alone (part.print at (var (codes "y")))) at at) None)
unfolding readers_in
with_read = refl

-- ---- algorithms
abbrev body : Simple → g.Body
body s = g.begin_end at (alone s) at at None

-- a fair process, a macro and a procedure without parameters, a procedure with one and with variables of its own
abbrev routines : Text
routines = record {
  head = g.algorithm at;
  name = n (codes "R");
  around = g.to_end at at;
  variables = section at false (variable (n (codes "x")) unset (by_semicolon at) (last_variable (n (codes "y")) (among at (var (codes "S"))) (Some (by_comma at))));
  define = g.define_end at (last_definition (plain (n (codes "T"))) at (num 1)) at at (Some at);
  macros = record { place = at; name = n (codes "M"); parameters = no_names at at; body = body (part.skip at) }
      ∷ record { place = at; name = n (codes "N"); parameters = some_names at (more_names (n (codes "a")) at (last_name (n (codes "b")))) at; body = body (part.print at (var (codes "a"))) } ∷ [];
  procedures = record { place = at; name = n (codes "P"); parameters = no_parameters at at; variables = no_section; body = body (part.return at) }
      ∷ record {
        place = at;
        name = n (codes "Q");
        parameters = some_parameters at (last_parameter (n (codes "a")) unset) at;
        variables = section at false (last_variable (n (codes "b")) (equals at (num 0)) (Some (by_semicolon at)));
        body = body (part.return at);
      } ∷ [];
  main = g.processes (record { fair = g.weak at; place = at; identity = g.bare (n (codes "W")) false at (num 1); variables = no_section; body = body (part.skip at) }) [];
}

routines_read : read_algorithm (spell routines []) ≡ Ok (routines, [])
unfolding readers_in
routines_read = refl

-- ---- which process it is, in memory and as it is spelled: P \in 3
members : identity_at (tree_of (num 3) ∷ []) (n (codes "P"), true, 0) ≡ identity_tree (g.bare (n (codes "P")) true at (num 3))
members = refl

members_below : past_identity (n (codes "P"), true, 0) ≡ 1
members_below = refl

-- ---- nothing opens the parts of an algorithm, and `end algorithm` closes them
opened : (frames (parts_of (readers 0 None))).opening (key (codes "begin") ∷ []) ≡ Ok (nowhere, key (codes "begin") ∷ [])
opened = refl

closed : (frames (parts_of (readers 0 None))).closing at (key (codes "end") ∷ key (codes "algorithm") ∷ []) ≡ Ok (g.to_end at at, [])
closed = refl

not_closed : closing (key (codes "end") ∷ key (codes "process") ∷ []) ≡ Err (rule.Syntax, key (codes "process") ∷ [])
not_closed = refl
