-- How large an algorithm is with its macro calls written out: its nodes, how deep it nests, and its labels ("A PlusCal User's Manual", section 3.5, macros).
use Rattle.std.specs.Prelude.{ℕ, ◌+◌, ◌*◌, max, suc, List, [], ◌∷◌, length, map, reverse}
use Rattle.tla_tree.specs.Tree.{Word, Name, Form, name, binding, strict, apply, select, Tree, node, Trees, no_trees, tree}
use Rattle.tla_tree.specs.Nesting.{tree_nesting, trees_nesting}
use Rattle.pcal_tree.specs.Algorithm.{Statements, Procedure, Process, Main, alone, processes, Macro, Algorithm}
use Rattle.pcal_tree.specs.Expand.{expanded}
use Rattle.macro_expand.specs.Measured.{Measure, Calls, of_trees, of_algorithm}

-- ---- nodes: each expression, names and literals too, and what is in it

-- how often the first parts of a form count: the set of a group once for each of its names; all others count once
abbrev pub weights : Form → List ℕ
weights (binding b groups) = map (λ (g : List Name). length g) groups
weights _ = []

-- with so many in its parts, of which a name has none
abbrev pub form_nodes : Form → ℕ → ℕ
form_nodes (name x) n = 1
form_nodes m n = 1 + n

abbrev mutual
  pub nodes : Tree → ℕ
  nodes (node m at ts) = form_nodes m (weighed (weights m) ts)

  pub weighed : List ℕ → Trees → ℕ
  weighed ks no_trees = 0
  weighed [] (tree t ts) = nodes t + weighed [] ts
  weighed (k ∷ ks) (tree t ts) = k * nodes t + weighed ks ts

-- ---- left sides: a left side is one node, and its parts are its subscripts

-- of a left side with a subscript or a field: what counts before these, and in the subscript
abbrev pub in_left : (ℕ → ℕ → ℕ) → Form → ℕ → ℕ → ℕ
in_left plus (strict apply) n k = plus n k
in_left plus (strict (select f)) n k = n
in_left plus m n k = 0

abbrev pub after_first : Trees → Trees
after_first no_trees = no_trees
after_first (tree t ts) = ts

abbrev mutual
  pub subscript_nodes : Tree → ℕ
  subscript_nodes (node m at ts) = in_left (λ n k. n + k) m (first_subscript_nodes ts) (weighed [] (after_first ts))

  pub first_subscript_nodes : Trees → ℕ
  first_subscript_nodes no_trees = 0
  first_subscript_nodes (tree l ts) = subscript_nodes l

abbrev mutual
  pub left_nesting : Tree → ℕ
  left_nesting (node m at ts) = in_left max m (first_left_nesting ts) (trees_nesting (after_first ts))

  pub first_left_nesting : Trees → ℕ
  first_left_nesting no_trees = 0
  first_left_nesting (tree l ts) = left_nesting l

-- ---- sizes

pub record Size : Type 0 where
  pub nodes : ℕ  -- statements, left sides and expressions
  pub expressions : ℕ  -- how deep expressions nest
  pub statements : ℕ  -- how deep statements nest
  pub labels : ℕ

abbrev pub no_size : Size
no_size = record { nodes = 0; expressions = 0; statements = 0; labels = 0 }

abbrev pub both : Size → Size → Size
both a b = record { nodes = a.nodes + b.nodes; expressions = max a.expressions b.expressions; statements = max a.statements b.statements; labels = a.labels + b.labels }

abbrev pub expression_size : ℕ → ℕ → Size
expression_size n k = record { nodes = n; expressions = k; statements = 0; labels = 0 }

abbrev pub one_node_more : Size → Size
one_node_more s = record { nodes = 1 + s.nodes; expressions = s.expressions; statements = s.statements; labels = s.labels }

abbrev pub deeper : ℕ → Size → Size
deeper k s = record { nodes = s.nodes; expressions = s.expressions; statements = k + s.statements; labels = s.labels }

abbrev pub one_label_more : Size → Size
one_label_more s = record { nodes = s.nodes; expressions = s.expressions; statements = s.statements; labels = suc s.labels }

abbrev pub sizes : Measure Size
sizes = record {
  nothing = no_size;
  both = both;
  expression = λ t. expression_size (nodes t) (tree_nesting t);
  left = λ l. expression_size (1 + subscript_nodes l) (left_nesting l);
  statement = one_node_more;
  inside = deeper;
  label = one_label_more;
}

-- a macro call that isn't written out is a statement with its arguments
abbrev pub call_size : Calls Size
call_size m ts = one_node_more (of_trees sizes ts)

-- ---- the expansion

abbrev pub expanded_main : (Statements → Statements) → Main → Main
expanded_main f (alone b) = alone (f b)
expanded_main f (processes ps) = processes (map (λ (p : Process). record { name = p.name; fairness = p.fairness; several = p.several; identity = p.identity; variables = p.variables; body = f p.body }) ps)

-- the algorithm with its macro calls written out, without its macros
abbrev pub expansion : Algorithm → Algorithm
expansion a = record {
  name = a.name;
  fair = a.fair;
  globals = a.globals;
  definitions = a.definitions;
  macros = [];
  procedures = map (λ (p : Procedure). record { name = p.name; params = p.params; variables = p.variables; body = expanded (reverse a.macros) p.body }) a.procedures;
  main = expanded_main (expanded (reverse a.macros)) a.main;
}

abbrev pub expanded_size : Algorithm → Size
expanded_size a = of_algorithm sizes call_size (expansion a)
