-- Numbers of names: how long a chain of macros is that ends with one, or how deep a use of a definition nests.
use Rattle.std.specs.Prelude.{ℕ, List, ◌==◌, unwrap_or}
use Rattle.std.specs.Cmp.Lexicographic.{pointwise}
use Rattle.std.specs.Map.{lookup}
use Rattle.indexmap.specs.IndexMap.{insert_entry}
use Rattle.tla_tree.specs.Tree.{Word}

-- each name once
abbrev pub Numbers : Type 0
Numbers = List (Word × ℕ)

-- 0 where a name has none
abbrev pub number_of : Numbers → Word → ℕ
number_of es x = unwrap_or (lookup (pointwise ◌==◌ x) es) 0

-- with another number of a name
abbrev pub with_number : Numbers → Word → ℕ → Numbers
with_number es x n = insert_entry (pointwise ◌==◌) es x n
