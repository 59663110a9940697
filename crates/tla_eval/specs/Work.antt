-- How much there is to do for a tree: its nodes and the names that they bind, with room for the functions between; and for definitions.
use Rattle.std.specs.Prelude.{ℕ, zero, suc, ◌+◌, List, Option, Some, None, slice_get}
use Rattle.tla_tree.specs.Tree.{Tree, node, Trees, no_trees, tree}
use Rattle.tla_tree.specs.Pool.{at}
use Rattle.tla_value.specs.declared.names.Definition.{Definition as Kept}

abbrev mutual
  pub work : Tree → ℕ
  work (node m at ts) = 9 + works ts

  pub works : Trees → ℕ
  works no_trees = 0
  works (tree t ts) = work t + works ts

abbrev pub body_work : List Tree → Option Kept → ℕ
body_work ts None = 0
body_work ts (Some d) = work (at ts d.body)

-- of the first n definitions
abbrev pub defs_work : List Tree → List Kept → ℕ → ℕ
defs_work ts ds zero = 0
defs_work ts ds (suc k) = suc (body_work ts (slice_get ds k) + defs_work ts ds k)
