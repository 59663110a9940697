-- Items that are equal but for places.
use Rattle.std.specs.Prelude.{◌≡◌}
use Rattle.tla_value.specs.laws.Places.{TreesButPlaces}
use Rattle.module_tree.specs.Module.{Item, test, setting, unchanged, exists, local, if_then_else, either, Items, no_items, item, Branches, no_branches, branch}

abbrev mutual
  pub ItemButPlaces : Item → Item → Type 0
  ItemButPlaces (test e) (test f) = TreesButPlaces e f
  ItemButPlaces (setting x e) (setting y f) = (x ≡ y) × TreesButPlaces e f
  ItemButPlaces (unchanged xs) (unchanged ys) = xs ≡ ys
  ItemButPlaces (exists x e is) (exists y f js) = (x ≡ y) × TreesButPlaces e f × ItemsButPlaces is js
  ItemButPlaces (local x e is) (local y f js) = (x ≡ y) × TreesButPlaces e f × ItemsButPlaces is js
  ItemButPlaces (if_then_else e a b) (if_then_else f d g) = TreesButPlaces e f × ItemsButPlaces a d × ItemsButPlaces b g
  ItemButPlaces (either bs) (either ds) = BranchesButPlaces bs ds
  ItemButPlaces _ _ = ⊥

  pub ItemsButPlaces : Items → Items → Type 0
  ItemsButPlaces no_items no_items = Unit {0}
  ItemsButPlaces (item i is) (item j js) = ItemButPlaces i j × ItemsButPlaces is js
  ItemsButPlaces _ _ = ⊥

  pub BranchesButPlaces : Branches → Branches → Type 0
  BranchesButPlaces no_branches no_branches = Unit {0}
  BranchesButPlaces (branch is bs) (branch js ds) = ItemsButPlaces is js × BranchesButPlaces bs ds
  BranchesButPlaces _ _ = ⊥
