-- Worked rows of printing, by computation: algorithms with each part, in both syntaxes.
use Rattle.std.proofs.Common.{◌≡◌, refl, true, false, [], ◌∷◌, codes}
use Rattle.tla_tree.specs.Tree.{Word, Name, Tree, node, no_trees}
use Rattle.tla_tree.specs.Tree as expr
use Rattle.pcal_tree.specs.declared.mark.Mark.TheVariants as marked
use Rattle.pcal_tree.specs.declared.mark.Fairness.TheVariants as fairness
use Rattle.pcal_tree.specs.Algorithm.{nowhere, Statement, skip, return, Statements, done, then, mark, unset, equals, among, Declaration, Algorithm, alone, processes}
use Rattle.pcal_tree.specs.Placeless.{no_span}
use Rattle.pcal_tree.specs.Printed.{PText, CText}

abbrev n : Word → Name
n x = record { word = x; place = nowhere }

abbrev var : Word → Tree
var x = node (expr.name x) nowhere no_trees

abbrev labelled : Word → Statement → Statements
labelled l s = mark (n l) marked.Plain (then no_span s done)

abbrev no_start : Word → Declaration
no_start x = record { name = n x; start = unset }

abbrev starts_at : Word → Word → Declaration
starts_at x y = record { name = n x; start = equals (var y) }

abbrev starts_in : Word → Word → Declaration
starts_in x s = record { name = n x; start = among (var s) }

-- ---- the least algorithm

abbrev least : Algorithm
least = record { name = n (codes "R"); fair = true; globals = []; definitions = []; macros = []; procedures = []; main = alone (labelled (codes "A") skip) }

least_in_p : PText least ≡ codes "--fair algorithm R\nbegin\n  A: skip;\nend algorithm"
least_in_p = refl

least_in_c : CText least ≡ codes "--fair algorithm R {\n{\n  A: skip;\n}\n}"
least_in_c = refl

-- ---- each part once

abbrev whole : Algorithm
whole = record {
  name = n (codes "R");
  fair = false;
  globals = starts_at (codes "x") (codes "c") ∷ starts_in (codes "y") (codes "S") ∷ no_start (codes "z") ∷ [];
  definitions = record { name = n (codes "D"); params = []; body = var (codes "x") } ∷ record { name = n (codes "E"); params = n (codes "a") ∷ n (codes "b") ∷ []; body = var (codes "a") } ∷ [];
  macros = record { name = n (codes "M"); params = n (codes "a") ∷ []; body = then no_span skip done } ∷ record { name = n (codes "O"); params = []; body = then no_span skip done } ∷ [];
  procedures =
      record { name = n (codes "P"); params = starts_at (codes "a") (codes "c") ∷ no_start (codes "b") ∷ []; variables = starts_at (codes "k") (codes "a") ∷ []; body = labelled (codes "L") return }
      ∷ record { name = n (codes "Q"); params = []; variables = []; body = labelled (codes "L") return } ∷ [];
  main = processes (
      record { name = n (codes "T"); fairness = fairness.Weak; several = true; identity = var (codes "S"); variables = no_start (codes "i") ∷ []; body = labelled (codes "A") skip }
      ∷ record { name = n (codes "U"); fairness = fairness.Strong; several = false; identity = var (codes "c"); variables = []; body = labelled (codes "B") skip }
      ∷ record { name = n (codes "V"); fairness = fairness.Unfair; several = false; identity = var (codes "d"); variables = []; body = labelled (codes "C") skip } ∷ []
      );
}

whole_in_p : PText whole ≡ codes "--algorithm R\nvariables x = c, y \\in S, z;\ndefine\n  D == x\n  E(a, b) == a\nend define;\nmacro M(a)\nbegin\n  skip;\nend macro;\nmacro O()\nbegin\n  skip;\nend macro;\nprocedure P(a = c, b)\nvariables k = a;\nbegin\n  L: return;\nend procedure;\nprocedure Q()\nbegin\n  L: return;\nend procedure;\nfair process T \\in S\nvariables i;\nbegin\n  A: skip;\nend process;\nfair+ process U = c\nbegin\n  B: skip;\nend process;\nprocess V = d\nbegin\n  C: skip;\nend process;\nend algorithm"
whole_in_p = refl

whole_in_c : CText whole ≡ codes "--algorithm R {\nvariables x = c, y \\in S, z;\ndefine {\n  D == x\n  E(a, b) == a\n}\nmacro M(a)\n{\n  skip;\n}\nmacro O()\n{\n  skip;\n}\nprocedure P(a = c, b)\nvariables k = a;\n{\n  L: return;\n}\nprocedure Q()\n{\n  L: return;\n}\nfair process (T \\in S)\nvariables i;\n{\n  A: skip;\n}\nfair+ process (U = c)\n{\n  B: skip;\n}\nprocess (V = d)\n{\n  C: skip;\n}\n}"
whole_in_c = refl
