-- Groups of bound names taken apart: each name in a group of its own, with the group's set once for each name.
use Rattle.std.specs.Prelude.{List, [], ◌∷◌, map}
use Rattle.std.specs.List.{flat_map}
use Rattle.tla_tree.specs.Tree.{Name, Tree, Trees, no_trees, tree}

abbrev pub each_alone : List Name → List (List Name)
each_alone xs = map (λ (x : Name). x ∷ []) xs

abbrev pub ungrouped : List (List Name) → List (List Name)
ungrouped groups = flat_map each_alone groups

abbrev pub for_each_name : List Name → Tree → Trees → Trees
for_each_name [] s ts = ts
for_each_name (x ∷ xs) s ts = tree s (for_each_name xs s ts)

-- the set of a group for each of its names, and then the body
abbrev pub sets_for_names : List (List Name) → Trees → Trees
sets_for_names (xs ∷ groups) (tree s ts) = for_each_name xs s (sets_for_names groups ts)
sets_for_names _ ts = ts

-- each group has a name and a set, and the body is last
abbrev pub HaveSets : List (List Name) → Trees → Type 0
HaveSets [] (tree body no_trees) = Unit {0}
HaveSets ((x ∷ xs) ∷ groups) (tree s ts) = HaveSets groups ts
HaveSets _ _ = ⊥
