-- What is left after an expression of which each node counts so often and which may nest so deep, and after the subscripts of a left side.
use Rattle.std.specs.Prelude.{ℕ, ◌*◌, nat_lt, List, Vec, map, length}
use Rattle.std.specs.declared.alloc.Global.{Global}
use Rattle.tla_token.specs.Limits.{deepest_expression}
use Rattle.tla_tree.specs.Tree.{Name, Tree, Trees}
use Rattle.tla_tree.specs.Nesting.{tree_nesting, trees_nesting}
use Rattle.macro_expand.specs.Size.{nodes, weighed, subscript_nodes, left_nesting}
use Rattle.expansion_size.specs.declared.left.Left.{Left}
use Rattle.expansion_size.specs.Spent.{spend}

abbrev pub tree_spent : ℕ → ℕ → Tree → Left → Left
tree_spent w d t l = spend (w * nodes t) 0 (nat_lt d (tree_nesting t)) l

-- after the parts of a form of which the first ones count so often more
abbrev pub parts_spent : ℕ → ℕ → List ℕ → Trees → Left → Left
parts_spent w d ks ts l = spend (w * weighed ks ts) 0 (nat_lt d (trees_nesting ts)) l

abbrev pub left_spent : Tree → Left → Left
left_spent t l = spend (subscript_nodes t) 0 (nat_lt deepest_expression (left_nesting t)) l

-- how many names each group has
abbrev pub lengths : List (Vec Name Global) → List ℕ
lengths gs = map (λ (g : Vec Name Global). length g.items) gs
