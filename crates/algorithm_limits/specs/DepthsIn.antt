-- How deep uses nest, by a table of definitions and the names that are bound around; and the names that are seen in each part of a form.
use Rattle.std.specs.Prelude.{◌≡◌, ℕ, suc, ◌+◌, ◌==◌, max, min, nat_eq, nat_lt, List, [], ◌++◌, length, take, drop, cond}
use Rattle.std.specs.List.{list_any, flat_map}
use Rattle.std.specs.Cmp.Lexicographic.{pointwise}
use Rattle.tla_tree.specs.Tree.{Word, words, Form, name, operator_call, binding, local, Trees, no_trees, tree}
use Rattle.tla_value.specs.DefinitionNesting.{Depths, depth_of_use, hidden, nests}
use Rattle.algorithm_limits.specs.Numbers.{Numbers, number_of}

-- names that are bound are no uses
abbrev pub depth_in : Numbers → List Word → Word → ℕ
depth_in es hs x = cond (list_any (pointwise ◌==◌ x) hs) 0 (number_of es x)

abbrev pub used_in : Numbers → List Word → Form → ℕ
used_in es hs (name x) = depth_in es hs x
used_in es hs (operator_call f) = depth_in es hs f
used_in es hs _ = 0

-- up to a depth, the table and the bound names have these depths
abbrev pub AreDepths : ℕ → Numbers → List Word → Depths → Type 0
AreDepths most es hs ds = (x : Word) → min most (depth_of_use ds x) ≡ min most (depth_in es hs x)

-- ---- names that are bound in a form

-- the names that its part of this number sees
abbrev pub seen_by : Form → ℕ → List Word
seen_by (binding b groups) i = cond (nat_lt i (length groups)) [] (flat_map words groups)
seen_by (local xs) i = words (take i xs)
seen_by m i = []

-- those that the part after it sees besides
abbrev pub seen_next : Form → ℕ → List Word
seen_next (binding b groups) i = cond (nat_eq (i + 1) (length groups)) (flat_map words groups) []
seen_next (local xs) i = words (take 1 (drop i xs))
seen_next m i = []

-- how deep the parts from this number on nest, each in a form of this kind
abbrev pub nest_from : Form → ℕ → Trees → Depths → ℕ
nest_from m i no_trees ds = 0
nest_from m i (tree t ts) ds = max (1 + nests t (hidden (seen_by m i) ds)) (nest_from m (suc i) ts ds)

-- further names are bound, behind those that were
pub record Hides (old new names : List Word) : Type 0 where
  pub more : List Word
  pub behind : new ≡ old ++ more
  pub has : (x : Word) → list_any (pointwise ◌==◌ x) new ≡ list_any (pointwise ◌==◌ x) (old ++ names)
