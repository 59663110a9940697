-- Worked rows of reading statements in C-syntax, by computation.
use Rattle.std.proofs.Common.{◌≡◌, refl, ℕ, ◌+◌, true, false, List, [], ◌∷◌, ◌++◌, Some, None, Ok, Err, codes}
use Rattle.tla_token.specs.declared.place.Place.{Place}
use Rattle.tla_token.specs.declared.rule.Rule.TheVariants.{Syntax}
use Rattle.tla_tree.specs.declared.op.Op.TheVariants as op
use Rattle.tla_tree.specs.Tree.{Word}
use Rattle.tla_tree.specs.Lexical.{Mark, Token, token}
use Rattle.tla_tree.specs.Lexical as tk
use Rattle.tla_tree.specs.Spelling.{Phrase}
use Rattle.tla_tree.specs.Spelling as spelled
use Rattle.tla_tree.specs.Reader.{Out, readers, readers_in}
use Rattle.pcal_tree.specs.GrammarParts.{Labels, no_labels}
use Rattle.pcal_tree.specs.GrammarParts as part
use Rattle.pcal_tree.specs.GrammarC.{Statement, Labelled, labelled, Sequence, sequence, simple, branch, either, with, while, compound, no_else, else_then, last_branch, more_branches, last_statement, more_statements}
use Rattle.syntax_reading.specs.TokenReaders.{parts_of}
use Rattle.c_reading.specs.ReadStatements.{read_sequence}

abbrev at : ℕ → Place
at k = record { line = 1; col = k }

abbrev word : ℕ → Word → Token
word k x = token (at k) (tk.word x)

abbrev key : ℕ → Word → Token
key k x = token (at k) (tk.reserved x)

abbrev mark : ℕ → Mark → Token
mark k m = token (at k) (tk.mark m)

abbrev var : ℕ → Word → Phrase
var k x = spelled.name (at k) x

abbrev plain : Statement → Labelled
plain a = labelled no_labels a

abbrev skips : ℕ → Labelled
skips k = plain (simple (part.skip (at k)))

abbrev returns : ℕ → Labelled
returns k = plain (simple (part.return (at k)))

abbrev sets : ℕ → Word → ℕ → ℕ → Labelled
sets k x j n = plain (simple (part.assign (part.last_assignment (var k x) (at j) (spelled.number (at (j + 3)) n))))

abbrev read : List Token → Out Sequence
read ts = read_sequence (parts_of (readers 100 None)) 30 ts

-- the list is read from its tokens, to the `}` after it
abbrev IsRead : Sequence → Type 0
IsRead ss = read (sequence ss (mark 99 tk.close_brace ∷ [])) ≡ Ok (ss, mark 99 tk.close_brace ∷ [])

-- if (x > 0) { y := 1 } else z := 2; skip: two statements
abbrev two : Sequence
two = more_statements
    (plain (branch (at 1) (at 4) (spelled.infix_of (var 5 (codes "x")) (at 7) op.Greater (spelled.number (at 9) 0)) (at 10) (plain (compound (at 12) (last_statement (sets 14 (codes "y") 16 1) None) (at 21)))
    (else_then None (at 23) (sets 28 (codes "z") 30 2))))
    (Some (at 34))
    (last_statement (skips 36) None)

two_read : IsRead two
unfolding readers_in
two_read = refl

-- if (a) if (b) skip else return: the `else` belongs to the inner `if`
inner : IsRead (last_statement (plain (branch (at 1) (at 4) (var 5 (codes "a")) (at 6) (plain (branch (at 8) (at 11) (var 12 (codes "b")) (at 13) (skips 15) (else_then None (at 20) (returns 25)))) no_else)) None)
unfolding readers_in
inner = refl

-- if (a) if (b) skip; else return; else skip: the second one belongs to the outer `if`
outer : IsRead (last_statement
    (plain (branch (at 1) (at 4) (var 5 (codes "a")) (at 6) (plain (branch (at 8) (at 11) (var 12 (codes "b")) (at 13) (skips 15) (else_then (Some (at 19)) (at 20) (returns 25)))) (else_then (Some (at 31)) (at 33) (skips 38)))) None)
unfolding readers_in
outer = refl

-- A:+ B: m(); C:- while (a) with (u \in y, v = y;) goto L; D: { skip; }; x[1].f := y || z := y;
abbrev nested : Sequence
nested = more_statements (labelled (part.label (spelled.named (at 1) (codes "A")) (part.colon_plus (at 2) (at 3)) (part.label (spelled.named (at 5) (codes "B")) (part.colon (at 6)) no_labels))
    (simple (part.macro (spelled.named (at 8) (codes "m")) (part.no_arguments (at 9) (at 10))))) (Some (at 11))
    (more_statements (labelled (part.label (spelled.named (at 13) (codes "C")) (part.colon_minus (at 14) (at 15)) no_labels) (while (at 17) (at 23) (var 24 (codes "a")) (at 25) (plain
    (with (at 27) (at 32) (part.bind (spelled.named (at 33) (codes "u")) true (at 35) (var 39 (codes "y")) (part.by_comma (at 40)) (part.last_bind (spelled.named (at 42) (codes "v")) false (at 44) (var 46 (codes "y")) (Some (part.by_semicolon (at 47)))))
    (at 48) (plain (simple (part.goto (at 50) (spelled.named (at 55) (codes "L"))))))))) (Some (at 56))
    (more_statements (labelled (part.label (spelled.named (at 58) (codes "D")) (part.colon (at 59)) no_labels) (compound (at 61) (last_statement (skips 63) (Some (at 67))) (at 69))) (Some (at 70))
    (last_statement (plain (simple (part.assign (part.assignment (spelled.select (spelled.apply (var 72 (codes "x")) (at 73) (spelled.last (spelled.number (at 74) 1)) (at 75)) (at 76) (record { place = at 77; is_reserved = false; text = codes "f" }))
    (at 79) (var 82 (codes "y")) (at 84) (part.last_assignment (var 87 (codes "z")) (at 89) (var 92 (codes "y"))))))) (Some (at 93)))))

nested_read : IsRead nested
unfolding readers_in
nested_read = refl

-- either skip; or { return } or while (a) skip;: a `;` may stand before an `or`, and at the end
either_read : IsRead (last_statement
    (plain (either (at 1) (skips 8) (more_branches (Some (at 12)) (at 14) (plain (compound (at 17) (last_statement (returns 19) None) (at 26))) (last_branch None (at 28) (plain (while (at 31) (at 37) (var 38 (codes "a")) (at 39) (skips 41)))))))
    (Some (at 45)))
unfolding readers_in
either_read = refl

-- after a `}` the `;` may be left out, also where it ends an `if`: if (a) { skip } { skip } skip
undivided : IsRead (more_statements (plain (branch (at 1) (at 4) (var 5 (codes "a")) (at 6) (plain (compound (at 8) (last_statement (skips 10) None) (at 15))) no_else)) None
    (more_statements (plain (compound (at 17) (last_statement (skips 19) None) (at 24))) None (last_statement (skips 26) None)))
unfolding readers_in
undivided = refl

-- either if (a) either skip or skip else skip or skip: the inner one ends at the `else`, so the last `or` belongs to the outer one
passed_on : IsRead (last_statement
    (plain (either (at 1) (plain (branch (at 8) (at 11) (var 12 (codes "a")) (at 13) (plain (either (at 15) (skips 22) (last_branch None (at 27) (skips 30)))) (else_then None (at 35) (skips 40)))) (last_branch None (at 45) (skips 48)))) None)
unfolding readers_in
passed_on = refl

-- ---- refused at the first of the others, or at the end where there are none
abbrev IsRefusedAfter : List Token → List Token → Type 0
IsRefusedAfter passed others = read (passed ++ others) ≡ Err (Syntax, others)

abbrev test : ℕ → List Token
test k = key k (codes "if") ∷ mark 4 tk.open_bracket ∷ word 5 (codes "a") ∷ mark 6 tk.close_bracket ∷ []

-- either either: an `or` has to come right after the inner one, which would take it
either_either : IsRefusedAfter (key 1 (codes "either") ∷ []) (key 8 (codes "either") ∷ [])
either_either = refl

-- either A: while (a) either: also after labels and `while`
either_in_while : IsRefusedAfter (key 1 (codes "either") ∷ word 8 (codes "A") ∷ mark 9 tk.colon ∷ key 11 (codes "while") ∷ mark 12 tk.open_bracket ∷ word 13 (codes "a") ∷ mark 14 tk.close_bracket ∷ []) (key 16 (codes "either") ∷ [])
unfolding readers_in
either_in_while = refl

-- either if (a) either skip or skip }: an `else` has to come
else_owed : IsRefusedAfter (key 1 (codes "either") ∷ (test 1 ++ key 8 (codes "either") ∷ key 9 (codes "skip") ∷ key 10 (codes "or") ∷ key 11 (codes "skip") ∷ [])) (mark 20 tk.close_brace ∷ [])
unfolding readers_in
else_owed = refl

-- either skip }, either skip; skip: a branch is missing
one_branch : IsRefusedAfter (key 1 (codes "either") ∷ key 8 (codes "skip") ∷ []) (mark 13 tk.close_brace ∷ [])
one_branch = refl

branch_missing : IsRefusedAfter (key 1 (codes "either") ∷ key 8 (codes "skip") ∷ mark 12 tk.semicolon ∷ []) (key 14 (codes "skip") ∷ [])
branch_missing = refl

-- skip ; ;
twice : IsRefusedAfter (key 1 (codes "skip") ∷ mark 5 tk.semicolon ∷ []) (mark 6 tk.semicolon ∷ [])
twice = refl

-- skip skip
no_semicolon : IsRefusedAfter (key 1 (codes "skip") ∷ []) (key 6 (codes "skip") ∷ [])
no_semicolon = refl

-- if (a) { skip } else skip skip
after_else : IsRefusedAfter (test 1 ++ mark 8 tk.open_brace ∷ key 9 (codes "skip") ∷ mark 10 tk.close_brace ∷ key 11 (codes "else") ∷ key 12 (codes "skip") ∷ []) (key 13 (codes "skip") ∷ [])
unfolding readers_in
after_else = refl

-- an `else` and an `or` that nothing takes, also in a block: if (a) { skip else
no_if : IsRefusedAfter (key 1 (codes "skip") ∷ []) (key 6 (codes "else") ∷ [])
no_if = refl

no_either : IsRefusedAfter (key 1 (codes "skip") ∷ mark 5 tk.semicolon ∷ []) (key 7 (codes "or") ∷ [])
no_either = refl

in_a_block : IsRefusedAfter (test 1 ++ mark 8 tk.open_brace ∷ key 9 (codes "skip") ∷ []) (key 14 (codes "else") ∷ [])
unfolding readers_in
in_a_block = refl

-- nothing in a list, in braces and after a label
no_statement : IsRefusedAfter [] (mark 1 tk.close_brace ∷ [])
no_statement = refl

empty_block : IsRefusedAfter (mark 1 tk.open_brace ∷ []) (mark 2 tk.close_brace ∷ [])
empty_block = refl

only_label : IsRefusedAfter (word 1 (codes "A") ∷ mark 2 tk.colon ∷ []) (mark 4 tk.close_brace ∷ [])
only_label = refl

-- if a: a test stands in brackets
no_bracket : IsRefusedAfter (key 1 (codes "if") ∷ []) (word 4 (codes "a") ∷ [])
no_bracket = refl

-- words of the other syntax
a_then : IsRefusedAfter (test 1) (key 8 (codes "then") ∷ [])
unfolding readers_in
a_then = refl

an_end : IsRefusedAfter (key 1 (codes "skip") ∷ mark 5 tk.semicolon ∷ []) (key 7 (codes "end") ∷ [])
an_end = refl

-- at the end of the tokens
not_closed : IsRefusedAfter (key 1 (codes "skip") ∷ mark 5 tk.semicolon ∷ []) []
not_closed = refl
