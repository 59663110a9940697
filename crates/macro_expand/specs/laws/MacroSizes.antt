-- The size of an algorithm with its macro calls written out, computed without writing them out: what is counted once for each macro is a sum over the
-- names of its body, in which each call puts its arguments.
use Rattle.std.specs.Prelude.{ℕ, ◌+◌, max, suc, List, [], ◌∷◌, reverse, cond, bytes_eq}
use Rattle.tla_tree.specs.Tree.{Word, Name, Trees}
use Rattle.pcal_tree.specs.Algorithm.{Macro, Algorithm}
use Rattle.macro_expand.specs.Measured.{Measure, Calls, of_all, of_algorithm}
use Rattle.macro_expand.specs.Size.{Size}
use Rattle.macro_expand.specs.laws.Sums.{Unknown, counting, nesting, Sum, number, plus, put, value, as_names, tree_sum, left_sum, argument}

pub record Counts : Type 0 where
  pub nodes : Sum
  pub expressions : Sum
  pub statements : ℕ
  pub labels : ℕ

abbrev pub no_counts : Counts
no_counts = record { nodes = number 0; expressions = number 0; statements = 0; labels = 0 }

abbrev pub both : Counts → Counts → Counts
both a b = record { nodes = plus counting a.nodes b.nodes; expressions = plus nesting a.expressions b.expressions; statements = max a.statements b.statements; labels = a.labels + b.labels }

abbrev pub of_expression : Sum → Sum → Counts
of_expression n k = record { nodes = n; expressions = k; statements = 0; labels = 0 }

abbrev pub one_node_more : Counts → Counts
one_node_more s = record { nodes = plus counting (number 1) s.nodes; expressions = s.expressions; statements = s.statements; labels = s.labels }

abbrev pub deeper : ℕ → Counts → Counts
deeper k s = record { nodes = s.nodes; expressions = s.expressions; statements = k + s.statements; labels = s.labels }

abbrev pub one_label_more : Counts → Counts
one_label_more s = record { nodes = s.nodes; expressions = s.expressions; statements = s.statements; labels = suc s.labels }

abbrev pub counts : Measure Counts
counts = record {
  nothing = no_counts;
  both = both;
  expression = λ t. of_expression (tree_sum counting t) (tree_sum nesting t);
  left = λ l. of_expression (plus counting (number 1) (left_sum counting l)) (left_sum nesting l);
  statement = one_node_more;
  inside = deeper;
  label = one_label_more;
}

-- ---- macros

pub record MacroCounts : Type 0 where
  pub title : Word
  pub params : List Name
  pub counts : Counts

abbrev pub with_arguments : List Name → Trees → Counts → Counts
with_arguments ps ts c = record {
  nodes = put counting (argument counting ps ts) c.nodes;
  expressions = put nesting (argument nesting ps ts) c.expressions;
  statements = c.statements;
  labels = c.labels;
}

-- a call of no macro is a statement that can't be taken, as it is written out
abbrev pub unknown_call : Counts
unknown_call = one_node_more (deeper 1 no_counts)

-- of the newest macro of the name
abbrev pub call_counts : List MacroCounts → Calls Counts
call_counts [] m ts = unknown_call
call_counts (d ∷ older) m ts = cond (bytes_eq d.title m) (with_arguments d.params ts d.counts) (call_counts older m ts)

abbrev pub with_macro : Macro → List MacroCounts → List MacroCounts
with_macro d older = record { title = d.name.word; params = d.params; counts = of_all counts (call_counts older) d.body } ∷ older

-- the newest first
abbrev pub macro_counts : List Macro → List MacroCounts
macro_counts [] = []
macro_counts (d ∷ older) = with_macro d (macro_counts older)

-- ---- algorithms

abbrev pub size_at_names : Counts → Size
size_at_names c = record { nodes = value counting (as_names counting) c.nodes; expressions = value nesting (as_names nesting) c.expressions; statements = c.statements; labels = c.labels }

abbrev pub size_by : List MacroCounts → Algorithm → Size
size_by ms a = size_at_names (of_algorithm counts (call_counts ms) a)

abbrev pub size_by_macros : Algorithm → Size
size_by_macros a = size_by (macro_counts (reverse a.macros)) a
