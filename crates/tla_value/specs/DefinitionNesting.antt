-- How deep definitions nest with the bodies of earlier ones in place of their names, each use being one form more ("Specifying Systems", section 17.3).
use Rattle.std.specs.Prelude.{ℕ, ◌+◌, max, List, [], ◌∷◌, ◌++◌, map, cond, bytes_eq}
use Rattle.tla_tree.specs.Tree.{Word, Form, name, operator_call, Tree, node, Trees, no_trees, tree, seen_names}
use Rattle.tla_value.specs.Definitions.{Definition}

-- names of definitions, each with how deep a use of it nests, the latest first
abbrev pub Depths : Type 0
Depths = List (Word × ℕ)

abbrev pub depth_of_use : Depths → Word → ℕ
depth_of_use [] x = 0
depth_of_use (d ∷ ds) x = cond (bytes_eq d.0 x) d.1 (depth_of_use ds x)

-- names that are bound are no uses
abbrev pub hidden : List Word → Depths → Depths
hidden xs ds = map (λ x. (x, 0)) xs ++ ds

abbrev pub used : Depths → Form → ℕ
used ds (name x) = depth_of_use ds x
used ds (operator_call f) = depth_of_use ds f
used ds _ = 0

abbrev mutual
  pub nests : Tree → Depths → ℕ
  nests (node m at ts) ds = max (used ds m) (nest (seen_names m) ts ds)

  -- each part sees further names
  pub nest : List (List Word) → Trees → Depths → ℕ
  nest names no_trees ds = 0
  nest [] (tree t ts) ds = max (1 + nests t ds) (nest [] ts ds)
  nest (xs ∷ names) (tree t ts) ds = max (1 + nests t (hidden xs ds)) (nest names ts ds)

-- of a definition, with those before it
abbrev pub definition_nests : Depths → Definition → ℕ
definition_nests ds d = nests d.body (hidden d.params ds)

-- with further definitions, each seeing those before it
abbrev pub depths : Depths → List Definition → Depths
depths ds [] = ds
depths ds (e ∷ es) = depths ((e.title, 1 + definition_nests ds e) ∷ ds) es
