-- Worked rows of reading P-syntax, by computation.
use Rattle.std.proofs.Common.{◌≡◌, refl, ℕ, true, false, List, [], ◌∷◌, Some, None, Ok, Err, codes}
use Rattle.tla_token.specs.declared.place.Place.{Place}
use Rattle.tla_token.specs.declared.rule.Rule.TheVariants.{Syntax}
use Rattle.tla_tree.specs.declared.op.Op.TheVariants as op
use Rattle.tla_tree.specs.Tree.{Word, Name}
use Rattle.tla_tree.specs.Lexical.{Mark, Token, token}
use Rattle.tla_tree.specs.Lexical as tk
use Rattle.tla_tree.specs.Spelling.{Phrase}
use Rattle.tla_tree.specs.Spelling as spelled
use Rattle.tla_tree.specs.Reader.{Out, readers, readers_in}
use Rattle.pcal_tree.specs.GrammarParts as part
use Rattle.pcal_tree.specs.GrammarP.{Sequence, sequence, simple, branch, either, with, while, else_then, else_if, last_branch, more_branches, last_statement, more_statements}
use Rattle.pcal_tree.specs.Grammar.{Text, spell}
use Rattle.pcal_tree.specs.Grammar as g
use Rattle.syntax_reading.specs.TokenReaders.{parts_of}
use Rattle.p_reading.specs.ReadStatements.{read_sequence}
use Rattle.p_reading.specs.ReadAlgorithm.{read_algorithm}

abbrev at : ℕ → Place
at k = record { line = 1; col = k }

abbrev word : ℕ → Word → Token
word k x = token (at k) (tk.word x)

abbrev key : ℕ → Word → Token
key k x = token (at k) (tk.reserved x)

abbrev mark : ℕ → Mark → Token
mark k m = token (at k) (tk.mark m)

abbrev var : ℕ → Word → Phrase
var k x = spelled.name (at k) x

abbrev skips : ℕ → Sequence
skips k = last_statement part.no_labels (simple (part.skip (at k))) None

abbrev read : List Token → Out Sequence
read ts = read_sequence (parts_of (readers 100 None)) 30 ts

-- ---- lists of statements, to the `end` after them

-- if a then skip; elsif b then return else skip end if;
abbrev tests : Sequence
tests = last_statement part.no_labels
    (branch (at 1) (var 4 (codes "a")) (at 6) (last_statement part.no_labels (simple (part.skip (at 11))) (Some (at 15)))
    (else_if (at 17) (var 23 (codes "b")) (at 25) (last_statement part.no_labels (simple (part.return (at 30))) None)
    (else_then (at 37) (skips 42)))
    (at 47) (at 51))
    (Some (at 53))

tests_read : read (sequence tests (key 55 (codes "end") ∷ [])) ≡ Ok (tests, key 55 (codes "end") ∷ [])
unfolding readers_in
tests_read = refl

-- either skip; or A:+ B: m(); or x[1].f := y || z := y end either; while a do with u \in y, v = y; do goto L end with end while
abbrev nested : Sequence
nested = more_statements part.no_labels
    (either (at 1) (last_statement part.no_labels (simple (part.skip (at 8))) (Some (at 12)))
    (more_branches (at 14) (last_statement (part.label (spelled.named (at 17) (codes "A")) (part.colon_plus (at 18) (at 19)) (part.label (spelled.named (at 21) (codes "B")) (part.colon (at 22)) part.no_labels))
    (simple (part.macro (spelled.named (at 24) (codes "m")) (part.no_arguments (at 25) (at 26)))) (Some (at 27)))
    (last_branch (at 29) (last_statement part.no_labels
    (simple (part.assign (part.assignment (spelled.select (spelled.apply (var 32 (codes "x")) (at 33) (spelled.last (spelled.number (at 34) 1)) (at 35)) (at 36) (record { place = at 37; is_reserved = false; text = codes "f" }))
    (at 39) (var 42 (codes "y")) (at 44) (part.last_assignment (var 47 (codes "z")) (at 49) (var 52 (codes "y")))))) None)))
    (at 54) (at 58))
    (at 64)
    (last_statement part.no_labels (while (at 66) (var 72 (codes "a")) (at 74) (last_statement part.no_labels
    (with (at 77) (part.bind (spelled.named (at 82) (codes "u")) true (at 84) (var 88 (codes "y")) (part.by_comma (at 89)) (part.last_bind (spelled.named (at 91) (codes "v")) false (at 93) (var 95 (codes "y")) (Some (part.by_semicolon (at 96)))))
    (at 98) (last_statement part.no_labels (simple (part.goto (at 101) (spelled.named (at 106) (codes "L")))) None) (at 108) (at 112)) None) (at 117) (at 121)) None)

nested_read : read (sequence nested (key 127 (codes "end") ∷ [])) ≡ Ok (nested, key 127 (codes "end") ∷ [])
unfolding readers_in
nested_read = refl

-- ---- refused lists: `either skip end either` at `end`, `skip ; ;` at the second `;`, `while a do skip else` at `else`, `if a then skip end while` at `while`, `A: end` at `end`
one_branch : read (key 1 (codes "either") ∷ key 8 (codes "skip") ∷ key 13 (codes "end") ∷ key 17 (codes "either") ∷ []) ≡ Err (Syntax, key 13 (codes "end") ∷ key 17 (codes "either") ∷ [])
one_branch = refl

twice : read (key 1 (codes "skip") ∷ mark 5 tk.semicolon ∷ mark 6 tk.semicolon ∷ []) ≡ Err (Syntax, mark 6 tk.semicolon ∷ [])
twice = refl

no_if : read (key 1 (codes "while") ∷ word 7 (codes "a") ∷ key 9 (codes "do") ∷ key 12 (codes "skip") ∷ key 17 (codes "else") ∷ []) ≡ Err (Syntax, key 17 (codes "else") ∷ [])
unfolding readers_in
no_if = refl

other_end : read (key 1 (codes "if") ∷ word 4 (codes "a") ∷ key 6 (codes "then") ∷ key 11 (codes "skip") ∷ key 16 (codes "end") ∷ key 20 (codes "while") ∷ []) ≡ Err (Syntax, key 20 (codes "while") ∷ [])
unfolding readers_in
other_end = refl

only_label : read (word 1 (codes "A") ∷ mark 2 tk.colon ∷ key 4 (codes "end") ∷ []) ≡ Err (Syntax, key 4 (codes "end") ∷ [])
only_label = refl

-- ---- algorithms

abbrev n : Word → Name
n x = spelled.named (at 1) x

abbrev num : ℕ → Phrase
num k = spelled.number (at 1) k

abbrev body : Sequence → g.Body
body ss = g.begin_end (at 1) ss (at 1) (at 1) (Some (at 1))

-- each part once
abbrev large : Text
large = record {
  head = g.fair_algorithm (at 1) (at 1);
  name = n (codes "Big");
  around = g.to_end (at 1) (at 1);
  variables = part.section (at 1) true (part.variable (n (codes "x")) (part.equals (at 1) (num 0)) (part.by_comma (at 1)) (part.variable (n (codes "y")) (part.among (at 1) (var 1 (codes "S"))) (part.by_semicolon (at 1))
      (part.last_variable (n (codes "z")) part.unset (Some (part.by_semicolon (at 1))))));
  define = g.define_end (at 1) (part.more_definitions (part.plain (n (codes "T"))) (at 1) (num 1)
      (part.last_definition (part.applied (n (codes "F")) (at 1) (part.more_names (n (codes "a")) (at 1) (part.last_name (n (codes "b")))) (at 1)) (at 1) (spelled.infix_of (var 1 (codes "a")) (at 1) op.Plus (var 1 (codes "b")))))
      (at 1) (at 1) None;
  macros = record { place = at 1; name = n (codes "Put"); parameters = part.some_names (at 1) (part.last_name (n (codes "a"))) (at 1); body = body (skips 1) } ∷ [];
  procedures = record {
    place = at 1;
    name = n (codes "P");
    parameters = part.some_parameters (at 1) (part.parameter (n (codes "a")) (part.equals (at 1) (num 0)) (at 1) (part.last_parameter (n (codes "b")) part.unset)) (at 1);
    variables = part.no_section;
    body = body (last_statement part.no_labels (simple (part.call (at 1) (n (codes "P")) (part.some_arguments (at 1) (spelled.more (num 0) (at 1) (spelled.last (num 1))) (at 1)))) None);
  } ∷ [];
  main = g.processes
      (record { fair = g.strong (at 1) (at 1); place = at 1; identity = g.bare (n (codes "Q")) true (at 1) (spelled.infix_of (num 0) (at 1) op.Range (num 1)); variables = part.no_section; body = body tests })
      (record { fair = g.unfair; place = at 1; identity = g.bare (n (codes "R")) false (at 1) (num 2); variables = part.section (at 1) false (part.last_variable (n (codes "c")) part.unset None); body = body (skips 1) } ∷ []);
}

large_read : read_algorithm (spell large []) ≡ Ok (large, [])
unfolding readers_in
large_read = refl

-- one body
abbrev small : Text
small = record {
  head = g.algorithm (at 1);
  name = n (codes "A");
  around = g.to_end (at 9) (at 9);
  variables = part.no_section;
  define = g.no_define;
  macros = [];
  procedures = [];
  main = g.begin (at 1) (skips 1);
}

small_read : read_algorithm (spell small []) ≡ Ok (small, [])
unfolding readers_in
small_read = refl

-- a token after it is refused
after_it : read_algorithm (spell small (mark 20 tk.semicolon ∷ [])) ≡ Err (Syntax, mark 20 tk.semicolon ∷ [])
unfolding readers_in
after_it = refl
