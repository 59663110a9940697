-- Numbers of tokens and of trees that are not too large.
use Rattle.std.specs.Prelude.{nat_lt, Bool, true, ◌&&◌, List}
use Rattle.std.specs.List.{list_all}
use Rattle.tla_token.specs.Limits.{past_numbers}
use Rattle.tla_tree.specs.Tree.{Form, Tree, node, Trees, no_trees, tree}
use Rattle.tla_tree.specs.Tree as tree
use Rattle.tla_tree.specs.Lexical.{TokenView, Token}
use Rattle.tla_tree.specs.Lexical as tk

abbrev pub is_small : TokenView → Bool
is_small (tk.number n) = nat_lt n past_numbers
is_small k = true

abbrev pub all_small : List Token → Bool
all_small ts = list_all (λ t. is_small t.kind) ts

abbrev pub form_small : Form → Bool
form_small (tree.number n) = nat_lt n past_numbers
form_small m = true

abbrev mutual
  pub tree_small : Tree → Bool
  tree_small (node m at ts) = form_small m && trees_small ts

  pub trees_small : Trees → Bool
  trees_small no_trees = true
  trees_small (tree t ts) = tree_small t && trees_small ts
