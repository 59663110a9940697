-- Literals: expressions in which no name is used and none is bound ("Specifying Systems", section 16.1).
use Rattle.std.specs.Prelude.{Bool, true, false, ◌&&◌}
use Rattle.tla_tree.specs.Tree.{Form, number, string, truth, booleans, strings, Tree, node, Trees, no_trees, tree}

-- a number, a string, TRUE or FALSE, BOOLEAN, STRING
abbrev pub is_literal : Form → Bool
is_literal (number n) = true
is_literal (string w) = true
is_literal (truth b) = true
is_literal booleans = true
is_literal strings = true
is_literal _ = false

abbrev pub is_literal_tree : Tree → Bool
is_literal_tree (node m at no_trees) = is_literal m
is_literal_tree (node m at (tree t ts)) = false

abbrev pub are_literals : Trees → Bool
are_literals no_trees = true
are_literals (tree t ts) = is_literal_tree t && are_literals ts
