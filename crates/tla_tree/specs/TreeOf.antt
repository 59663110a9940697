-- A tree by its form, its place and the list of its parts.
use Rattle.std.specs.Prelude.{List, [], ◌∷◌}
use Rattle.tla_tree.specs.Tree.{Form, Tree, node, Trees, no_trees, tree}

abbrev pub trees_from : List Tree → Trees
trees_from [] = no_trees
trees_from (t ∷ ts) = tree t (trees_from ts)

abbrev pub list_of : Trees → List Tree
list_of no_trees = []
list_of (tree t ts) = t ∷ list_of ts

abbrev pub root_form : Tree → Form
root_form (node m at ts) = m

abbrev pub root_parts : Tree → List Tree
root_parts (node m at ts) = list_of ts
