-- How many trees there are in a list of them.
use Rattle.std.proofs.Common.{◌≡◌, ℕ, suc, List, [], ◌∷◌, length, map, refl, ap, ◌∙◌}
use Rattle.std.proofs.lemmas.List.{length-map}
use Rattle.tla_tree.specs.Tree.{Tree, Trees, no_trees, tree}
use Rattle.tla_tree.specs.TreeOf.{trees_from}
use Rattle.tla_tree.specs.Pool.{at}

abbrev pub count : Trees → ℕ
count no_trees = 0
count (tree t ts) = suc (count ts)

count_from : (ts : List Tree) → count (trees_from ts) ≡ length ts
count_from [] = refl
count_from (t ∷ ts) = ap suc (count_from ts)

pub count_at : (ts : List Tree) (is : List ℕ) → count (trees_from (map (at ts) is)) ≡ length is
count_at ts is = count_from (map (at ts) is) ∙ length-map is (at ts)
