-- A single process `P = e`: its items have the expression e in place of `self` ("A PlusCal User's Manual", section 3.3, processes).
use Rattle.std.specs.Prelude.{cond, bytes_eq, Some, None}
use Rattle.tla_tree.specs.Tree.{Word, Tree, Graft, graft}
use Rattle.tla_value.specs.Grafts.{arguments}
use Rattle.module_tree.specs.Module.{Item, test, setting, unchanged, exists, local, if_then_else, either, Items, no_items, item, Branches, no_branches, branch}

-- e for self, with its own places
abbrev pub in_place_of : Word → Tree → Graft
in_place_of self e = arguments (λ x. cond (bytes_eq self x) (Some e) None)

-- trees put in for names
abbrev mutual
  pub graft_item : Graft → Item → Item
  graft_item g (test e) = test (graft g e)
  graft_item g (setting x e) = setting x (graft g e)
  graft_item g (unchanged xs) = unchanged xs
  graft_item g (exists x e is) = exists x (graft g e) (graft_items g is)
  graft_item g (local x e is) = local x (graft g e) (graft_items g is)
  graft_item g (if_then_else e a b) = if_then_else (graft g e) (graft_items g a) (graft_items g b)
  graft_item g (either bs) = either (graft_branches g bs)

  pub graft_items : Graft → Items → Items
  graft_items g no_items = no_items
  graft_items g (item i is) = item (graft_item g i) (graft_items g is)

  pub graft_branches : Graft → Branches → Branches
  graft_branches g no_branches = no_branches
  graft_branches g (branch is bs) = branch (graft_items g is) (graft_branches g bs)
