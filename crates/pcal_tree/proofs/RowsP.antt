-- Worked examples of P-syntax, by computation: `elsif`, a larger algorithm, and its texts in both syntaxes.
use Rattle.std.proofs.Common.{◌≡◌, refl, arith, ℕ, ◌++◌, List, [], ◌∷◌, Some, None, false, true, codes}
use Rattle.std.specs.Fmt.{decimal}
use Rattle.std.proofs.lemmas.Fmt.{decimal_digit}
use Rattle.tla_token.specs.declared.place.Place.{Place}
use Rattle.tla_token.specs.declared.sign.Sign.TheVariants as sign
use Rattle.tla_token.specs.Lexemes.{Kind, name, one}
use Rattle.tla_token.specs.Tokens.{Token}
use Rattle.tla_tree.specs.declared.op.Op.{Op}
use Rattle.tla_tree.specs.declared.op.Op.TheVariants as op
use Rattle.tla_tree.specs.Tree.{Word, Tree, node, strict, operator, no_trees, tree}
use Rattle.tla_tree.specs.Tree as expr
use Rattle.tla_tree.specs.Spelling.{Phrase, Phrases}
use Rattle.tla_tree.specs.Spelling as spelled
use Rattle.pcal_tree.specs.declared.mark.Mark.TheVariants as marked
use Rattle.pcal_tree.specs.declared.mark.Fairness.TheVariants as fairness
use Rattle.pcal_tree.specs.Algorithm.{Name, Algorithm, Statements, Declaration}
use Rattle.pcal_tree.specs.Algorithm as tree
use Rattle.pcal_tree.specs.AlgorithmTokens.{views}
use Rattle.pcal_tree.specs.GrammarParts as part
use Rattle.pcal_tree.specs.GrammarP.{Sequence, sequence, statements, GoodSequence, simple, branch, else_then, else_if, last_statement}
use Rattle.pcal_tree.specs.Printed.{PText, CText}

abbrev at : ℕ → Place
at k = record { line = 1; col = k }

abbrev token : ℕ → Kind → Token
token k w = record { kind = w; at = 0; place = at k }

abbrev key : ℕ → Word → Token
key k w = token k (name w)

-- ---- statements

-- the tokens spell the statements
abbrev SpellStatements : List Token → Statements → Type 0
SpellStatements ts ss = (x : Sequence) × GoodSequence x × (views ts ≡ sequence x []) × (statements x ≡ ss)

abbrev name_at : ℕ → Word → Tree
name_at k x = node (expr.name x) (at k) no_trees

abbrev then : ℕ → ℕ → tree.Statement → Statements → Statements
then a b st rest = tree.then (record { first = at a; last = at b }) st rest

-- if a then skip; elsif b then return else skip end if;
abbrev tokens : List Token
tokens =
    key 1 (codes "if") ∷ key 4 (codes "a") ∷ key 6 (codes "then") ∷ key 11 (codes "skip") ∷ token 15 (one sign.Semicolon)
    ∷ key 17 (codes "elsif") ∷ key 23 (codes "b") ∷ key 25 (codes "then") ∷ key 30 (codes "return")
    ∷ key 37 (codes "else") ∷ key 42 (codes "skip") ∷ key 47 (codes "end") ∷ key 51 (codes "if") ∷ token 53 (one sign.Semicolon) ∷ []

abbrev phrase : Sequence
phrase = last_statement part.no_labels
    (branch (at 1) (spelled.name (at 4) (codes "a")) (at 6) (last_statement part.no_labels (simple (part.skip (at 11))) (Some (at 15)))
    (else_if (at 17) (spelled.name (at 23) (codes "b")) (at 25) (last_statement part.no_labels (simple (part.return (at 30))) None)
    (else_then (at 37) (last_statement part.no_labels (simple (part.skip (at 42))) None)))
    (at 47) (at 51))
    (Some (at 53))

-- an `if` alone in the `else`, with the last token of the whole
abbrev nested : Statements
nested = then 1 51 (tree.branch (name_at 4 (codes "a")) (then 11 11 tree.skip tree.done)
    (then 17 51 (tree.branch (name_at 23 (codes "b")) (then 30 30 tree.return tree.done) (then 42 42 tree.skip tree.done)) tree.done)) tree.done

else_and_if : SpellStatements tokens nested
else_and_if = (phrase, search, refl, refl)

-- ---- a larger algorithm

abbrev n : Word → Name
n x = record { word = x; place = at 1 }

abbrev v : Word → Tree
v x = name_at 1 x

abbrev num : ℕ → Tree
num k = node (expr.number k) (at 1) no_trees

abbrev over : Op → Tree → Tree → Tree
over o a b = node (strict (operator o)) (at 1) (tree a (tree b no_trees))

abbrev item : Tree → Tree → Tree
item f a = node (strict expr.apply) (at 1) (tree f (tree a no_trees))

abbrev sets : Tree → Tree → tree.Assignments → tree.Assignments
sets l e ms = tree.assignment l e ms

abbrev next : tree.Statement → Statements → Statements
next st rest = then 1 1 st rest

abbrev is : Word → Tree → Declaration
is x e = record { name = n x; start = tree.equals e }

abbrev a' : Word
a' = codes "a"

abbrev x' : Word
x' = codes "x"

abbrev y' : Word
y' = codes "y"

abbrev self_at : Statements
self_at = tree.mark (n (codes "L")) marked.Strong (next (tree.while (over op.Less (v x') (num 1))
    (next (tree.with (tree.one_of (n (codes "i")) (v (codes "S")) (tree.is (n (codes "j")) (num 0) tree.no_binds))
    (next (tree.assign (sets (item (v y') (v (codes "i"))) (num 1) (sets (v x') (v (codes "j")) tree.no_assignments))) tree.done)) tree.done))
    (tree.mark (n (codes "M")) marked.LeftOut (next (tree.either (tree.or (next (tree.await (v (codes "T"))) tree.done) (tree.or (next (tree.call (n (codes "P")) (tree (v x') no_trees)) tree.done) tree.no_branches)))
    (tree.mark (n (codes "N")) marked.Plain (next (tree.branch (v (codes "T")) (next (tree.macro (codes "Put") (tree (v x') no_trees)) tree.done) tree.done)
    (next (tree.goto (codes "L")) tree.done))))))

abbrev large : Algorithm
large = record {
  name = n (codes "Big");
  fair = true;
  globals = is x' (num 0) ∷ record { name = n y'; start = tree.among (v (codes "S")) } ∷ record { name = n (codes "z"); start = tree.unset } ∷ [];
  definitions = record { name = n (codes "T"); params = []; body = over op.Greater (v x') (num 0) } ∷ record { name = n (codes "F"); params = n a' ∷ n (codes "b") ∷ []; body = over op.Plus (v a') (v (codes "b")) } ∷ [];
  macros = record { name = n (codes "Put"); params = n a' ∷ []; body = next (tree.assign (sets (v a') (num 1) tree.no_assignments)) tree.done } ∷ [];
  procedures = record { name = n (codes "P"); params = is a' (num 0) ∷ []; variables = is (codes "b") (num 1) ∷ []; body = tree.mark (n (codes "K")) marked.Plain (next tree.return tree.done) } ∷ [];
  main = tree.processes (
      record { name = n (codes "Q"); fairness = fairness.Strong; several = true; identity = over op.Range (num 0) (num 1); variables = []; body = self_at }
      ∷ record { name = n (codes "R"); fairness = fairness.Unfair; several = false; identity = num 2; variables = is (codes "c") (num 0) ∷ []; body = tree.mark (n (codes "J")) marked.Plain (next tree.skip tree.done) } ∷ []);
}

zero_is : decimal 0 ≡ codes "0"
zero_is = decimal_digit 0 (omega arith)

one_is : decimal 1 ≡ codes "1"
one_is = decimal_digit 1 (omega arith)

two_is : decimal 2 ≡ codes "2"
two_is = decimal_digit 2 (omega arith)

in_p : PText large ≡
    codes "--fair algorithm Big\nvariables x = 0, y \\in S, z;\ndefine\n  T == x > 0\n  F(a, b) == a + b\nend define;\n"
    ++ codes "macro Put(a)\nbegin\n  a := 1;\nend macro;\n"
    ++ codes "procedure P(a = 0)\nvariables b = 1;\nbegin\n  K: return;\nend procedure;\n"
    ++ codes "fair+ process Q \\in 0..1\nbegin\n  L:+ while x < 1 do\n    with i \\in S, j = 0 do\n      y[i] := 1 || x := j;\n    end with;\n  end while;\n"
    ++ codes "  M:- either\n    await T;\n  or\n    call P(x);\n  end either;\n  N: if T then\n    Put(x);\n  end if;\n  goto L;\nend process;\n"
    ++ codes "process R = 2\nvariables c = 0;\nbegin\n  J: skip;\nend process;\nend algorithm"
in_p = rw (zero_is, one_is, two_is) refl

in_c : CText large ≡
    codes "--fair algorithm Big {\nvariables x = 0, y \\in S, z;\ndefine {\n  T == x > 0\n  F(a, b) == a + b\n}\n"
    ++ codes "macro Put(a)\n{\n  a := 1;\n}\n"
    ++ codes "procedure P(a = 0)\nvariables b = 1;\n{\n  K: return;\n}\n"
    ++ codes "fair+ process (Q \\in 0..1)\n{\n  L:+ while (x < 1) {\n    with (i \\in S, j = 0) {\n      y[i] := 1 || x := j;\n    };\n  };\n"
    ++ codes "  M:- either {\n    await T;\n  } or {\n    call P(x);\n  };\n  N: if (T) {\n    Put(x);\n  };\n  goto L;\n}\n"
    ++ codes "process (R = 2)\nvariables c = 0;\n{\n  J: skip;\n}\n}"
in_c = rw (zero_is, one_is, two_is) refl
