-- Trees without their places: two that differ in places alone are equal so.
use Rattle.std.specs.Prelude.{List, map}
use Rattle.tla_token.specs.Places.{nowhere}
use Rattle.tla_tree.specs.Tree.{Name, Slot, Strict, except, Form, strict, binding, local, Tree, node, Trees, no_trees, tree}

abbrev pub name_placeless : Name → Name
name_placeless x = record { word = x.word; place = nowhere }

abbrev pub names_placeless : List Name → List Name
names_placeless xs = map name_placeless xs

abbrev pub slot_placeless : Slot → Slot
slot_placeless n = record { path = n.path; place = nowhere }

abbrev pub strict_placeless : Strict → Strict
strict_placeless (except ns) = except (map slot_placeless ns)
strict_placeless o = o

abbrev pub form_placeless : Form → Form
form_placeless (strict o) = strict (strict_placeless o)
form_placeless (binding b groups) = binding b (map names_placeless groups)
form_placeless (local xs) = local (names_placeless xs)
form_placeless m = m

abbrev mutual
  pub tree_placeless : Tree → Tree
  tree_placeless (node m at ts) = node (form_placeless m) nowhere (trees_placeless ts)

  pub trees_placeless : Trees → Trees
  trees_placeless no_trees = no_trees
  trees_placeless (tree t ts) = tree (tree_placeless t) (trees_placeless ts)
