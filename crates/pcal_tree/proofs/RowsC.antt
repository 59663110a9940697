-- Worked examples of statements in C-syntax, by computation.
use Rattle.std.proofs.Common.{◌≡◌, refl, arith, ℕ, List, [], ◌∷◌, Option, Some, None, codes}
use Rattle.std.specs.Fmt.{decimal}
use Rattle.std.proofs.lemmas.Fmt.{decimal_digit}
use Rattle.tla_token.specs.declared.place.Place.{Place}
use Rattle.tla_token.specs.declared.sign.Sign.TheVariants as sign
use Rattle.tla_token.specs.Lexemes.{Kind, name, number, one}
use Rattle.tla_token.specs.Tokens.{Token}
use Rattle.tla_tree.specs.declared.op.Op.TheVariants as op
use Rattle.tla_tree.specs.Tree.{Word, Tree, node, strict, operator, no_trees, tree}
use Rattle.tla_tree.specs.Tree as expr
use Rattle.tla_tree.specs.Spelling.{Phrase}
use Rattle.tla_tree.specs.Spelling as spelled
use Rattle.pcal_tree.specs.declared.mark.Mark.TheVariants as fair
use Rattle.pcal_tree.specs.Algorithm.{Name, Statements}
use Rattle.pcal_tree.specs.Algorithm as tree
use Rattle.pcal_tree.specs.AlgorithmTokens.{views}
use Rattle.pcal_tree.specs.GrammarParts.{assign, last_assignment, skip, label, no_labels, colon}
use Rattle.pcal_tree.specs.GrammarC.{Statement, Labelled, Sequence, simple, branch, either, compound, labelled, no_else, else_then, last_branch, last_statement, more_statements, sequence, statements, GoodSequence, GoodStatement}
use Rattle.pcal_tree.specs.Grammar.{p_syntax, c_syntax}
use Rattle.pcal_tree.specs.Printed as printed

abbrev at : ℕ → Place
at k = record { line = 1; col = k }

abbrev token : ℕ → Kind → Token
token k w = record { kind = w; at = 0; place = at k }

-- the tokens spell the statements
abbrev SpellStatements : List Token → Statements → Type 0
SpellStatements ts ss = (x : Sequence) × GoodSequence x × (views ts ≡ sequence x []) × (statements x ≡ ss)

abbrev sets : ℕ → Word → ℕ → ℕ → ℕ → Statement
sets k x e f v = simple (assign (last_assignment (spelled.name (at k) x) (at e) (spelled.number (at f) v)))

abbrev plain : Statement → Labelled
plain st = labelled no_labels st

-- if (x > 0) { y := 1 } else z := 2; skip
abbrev tokens : List Token
tokens =
    token 1 (name (codes "if")) ∷ token 4 (one sign.OpenRound) ∷ token 5 (name (codes "x")) ∷ token 7 (one sign.Greater) ∷ token 9 (number 0) ∷ token 10 (one sign.CloseRound)
    ∷ token 12 (one sign.OpenCurly) ∷ token 14 (name (codes "y")) ∷ token 16 (one sign.Assign) ∷ token 19 (number 1) ∷ token 21 (one sign.CloseCurly)
    ∷ token 23 (name (codes "else")) ∷ token 28 (name (codes "z")) ∷ token 30 (one sign.Assign) ∷ token 33 (number 2) ∷ token 34 (one sign.Semicolon) ∷ token 36 (name (codes "skip")) ∷ []

abbrev number_at : ℕ → ℕ → Tree
number_at k n = node (expr.number n) (at k) no_trees

abbrev name_at : ℕ → Word → Tree
name_at k x = node (expr.name x) (at k) no_trees

abbrev set_tree : ℕ → Word → ℕ → ℕ → tree.Statement
set_tree k x f v = tree.assign (tree.assignment (name_at k x) (number_at f v) tree.no_assignments)

abbrev then : ℕ → ℕ → tree.Statement → Statements → Statements
then a b st rest = tree.then (record { first = at a; last = at b }) st rest

abbrev chosen : tree.Statement
chosen = tree.branch (node (strict (operator op.Greater)) (at 5) (tree (name_at 5 (codes "x")) (tree (number_at 9 0) no_trees)))
    (then 14 19 (set_tree 14 (codes "y") 19 1) tree.done) (then 28 33 (set_tree 28 (codes "z") 33 2) tree.done)

-- two statements
abbrev both : Statements
both = then 1 33 chosen (then 36 36 tree.skip tree.done)

two_statements : SpellStatements tokens both
two_statements = (
  more_statements
      (plain (branch (at 1) (at 4) (spelled.infix_of (spelled.name (at 5) (codes "x")) (at 7) op.Greater (spelled.number (at 9) 0)) (at 10)
      (plain (compound (at 12) (last_statement (plain (sets 14 (codes "y") 16 19 1)) None) (at 21)))
      (else_then None (at 23) (plain (sets 28 (codes "z") 30 33 2)))))
      (Some (at 34)) (last_statement (plain (simple (skip (at 36)))) None),
  search,
  refl,
  refl,
)

zero_is : decimal 0 ≡ codes "0"
zero_is = decimal_digit 0 (omega arith)

one_is : decimal 1 ≡ codes "1"
one_is = decimal_digit 1 (omega arith)

two_is : decimal 2 ≡ codes "2"
two_is = decimal_digit 2 (omega arith)

lines_in_p : printed.statements p_syntax 2 [] both [] ≡ codes "  if x > 0 then" ∷ codes "    y := 1;" ∷ codes "  else" ∷ codes "    z := 2;" ∷ codes "  end if;" ∷ codes "  skip;" ∷ []
lines_in_p = rw (zero_is, one_is, two_is) refl

lines_in_c : printed.statements c_syntax 2 [] both [] ≡ codes "  if (x > 0) {" ∷ codes "    y := 1;" ∷ codes "  } else {" ∷ codes "    z := 2;" ∷ codes "  };" ∷ codes "  skip;" ∷ []
lines_in_c = rw (zero_is, one_is, two_is) refl

-- a block needs no `;` after it, another statement does
block_first : (p q r s : Place) → GoodSequence (more_statements (plain (compound p (last_statement (plain (simple (skip q))) None) r)) None (last_statement (plain (simple (skip s))) None))
block_first p q r s = search

skip_first : (p q : Place) → GoodSequence (more_statements (plain (simple (skip p))) None (last_statement (plain (simple (skip q))) None)) → ⊥
skip_first p q g = cc

-- `if (e) if (f) skip else skip`: the `else` is that of the inner `if`, also after a `;`
outer_else : (p q r t u v w x y z : Place) (e f : Phrase) (s : Option Place)
    → GoodStatement (branch p q e r (plain (branch t u f v (plain (simple (skip w))) no_else)) (else_then s x (plain (simple (skip y))))) → ⊥
outer_else p q r t u v w x y z e f s g = cc

-- a block keeps it for the outer one
blocked_else : (p q r t u v w x y z : Place) (e f : Phrase) (s : Option Place)
    → spelled.IsGood e → spelled.IsGood f
    → GoodStatement (branch p q e r (plain (compound z (last_statement (plain (branch t u f v (plain (simple (skip w))) no_else)) None) z)) (else_then s x (plain (simple (skip y)))))
blocked_else p q r t u v w x y z e f s g h = search

-- an `either` can't end the first branch of another one
nested_either : (p q r s : Place) (a b c : Labelled) (o : Option Place) → GoodStatement (either p (plain (either q a (last_branch o r b))) (last_branch o s c)) → ⊥
nested_either p q r s a b c o g = cc

-- the label of a compound statement goes before the label of its first statement
flattened : statements (last_statement (labelled (label (record { word = codes "A"; place = at 1 }) (colon (at 2)) no_labels)
    (compound (at 4) (last_statement (labelled (label (record { word = codes "B"; place = at 6 }) (colon (at 7)) no_labels) (simple (skip (at 9)))) None) (at 14))) None)
    ≡ tree.mark (record { word = codes "A"; place = at 1 }) fair.Plain (tree.mark (record { word = codes "B"; place = at 6 }) fair.Plain (then 9 9 tree.skip tree.done))
flattened = refl
