-- How deep the lists of a translation in memory nest.
use Rattle.std.proofs.Common.{ℕ, ◌+◌, List, map, Vec, Global, refl}
use Rattle.tla_tree.specs.Tree.{Tree}
use Rattle.tla_tree.specs.Pool.{at, trees_at}
use Rattle.tla_tree.specs.Nesting.{greatest, tree_nesting, trees_nesting}
use Rattle.module_tree.specs.Module as tree
use Rattle.module_write.specs.declared.«module».Item.{Item}
use Rattle.module_write.specs.declared.«module».Way.{Way}
use Rattle.module_write.specs.declared.«module».Action.{Action}
use Rattle.module_write.specs.declared.«module».Fairness.{Fairness}
use Rattle.module_write.specs.InMemory.{item_at, items_at, branches_at, ways_at, actions_at, fairness_at}
use Rattle.region_reading.specs.Nests.{item_nests, list_nests, branches_nest, way_nests, body_nests, fairness_nests, listed}
use Rattle.region_depth.proofs.Rows.{IsGreatest}

module _ (ts : List Tree) where
  abbrev pub of_parts : List ℕ → ℕ
  of_parts es = trees_nesting (trees_at ts es)

  abbrev pub of_conjuncts : List ℕ → ℕ
  of_conjuncts es = listed (map tree_nesting (map (at ts) es))

  abbrev pub of_items : List Item → ℕ
  of_items is = list_nests (items_at ts is)

  pub items_greatest : IsGreatest of_items (λ i. 1 + item_nests (item_at ts i))
  items_greatest = record { none = refl; more = λ x xs. refl }

  abbrev pub of_branches : List (Vec Item Global) → ℕ
  of_branches bs = branches_nest (branches_at ts bs)

  abbrev pub of_ways : List Way → ℕ
  of_ways ys = listed (map way_nests (ways_at ts ys))

  abbrev pub of_actions : List Action → ℕ
  of_actions acts = greatest (map (λ (a : tree.Action). body_nests a.body) (actions_at ts acts))

  abbrev pub of_fairness : List Fairness → ℕ
  of_fairness fs = listed (map fairness_nests (map (fairness_at ts) fs))
