-- The subscript that trees in a row are: `a` in `f[a]`, and `<<a, b>>` in `f[a, b]`.
use Rattle.tla_token.specs.declared.place.Place.{Place}
use Rattle.tla_tree.specs.Tree.{Tree, Trees, node, no_trees, tree, strict, tuple}

-- the tree that is alone, or the tuple of them, which begins at the place
abbrev pub subscript_tree : Place → Trees → Tree
subscript_tree p no_trees = node (strict tuple) p no_trees
subscript_tree p (tree t no_trees) = t
subscript_tree p (tree t (tree u us)) = node (strict tuple) p (tree t (tree u us))
