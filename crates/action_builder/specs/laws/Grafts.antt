-- Items with trees put in for names: what captures nothing.
use Rattle.tla_tree.specs.declared.op.Op.TheVariants.{Subset}
use Rattle.tla_tree.specs.Tree.{Strict, operator, functions, records, name, next, operator_call, strings, strict, Tree, node, Every, Graft}
use Rattle.tla_value.specs.Stops.{Check}
use Rattle.tla_value.specs.laws.Grafting.{Clear, BindsClear}
use Rattle.module_tree.specs.Module.{Item, test, setting, unchanged, exists, local, if_then_else, either, Items, no_items, item, Branches, no_branches, branch}

-- no name that is bound is put in for, or read in a tree that is put in
abbrev mutual
  pub ClearItem : Check → Graft → Item → Type 0
  ClearItem c g (test e) = Every (BindsClear c g) e
  ClearItem c g (setting x e) = Every (BindsClear c g) e
  ClearItem c g (unchanged xs) = Unit {0}
  ClearItem c g (exists x e is) = Every (BindsClear c g) e × Clear c g x × ClearItems c g is
  ClearItem c g (local x e is) = Every (BindsClear c g) e × Clear c g x × ClearItems c g is
  ClearItem c g (if_then_else e a b) = Every (BindsClear c g) e × ClearItems c g a × ClearItems c g b
  ClearItem c g (either bs) = ClearBranches c g bs

  pub ClearItems : Check → Graft → Items → Type 0
  ClearItems c g no_items = Unit {0}
  ClearItems c g (item i is) = ClearItem c g i × ClearItems c g is

  pub ClearBranches : Check → Graft → Branches → Type 0
  ClearBranches c g no_branches = Unit {0}
  ClearBranches c g (branch is bs) = ClearItems c g is × ClearBranches c g bs

-- no form that is tested for its members without being listed, or whose meaning is a name's or an operator's
abbrev pub StrictListed : Strict → Type 0
StrictListed (operator Subset) = ⊥
StrictListed functions = ⊥
StrictListed (records xs) = ⊥
StrictListed o = Unit {0}

abbrev pub IsListed : Tree → Type 0
IsListed (node (name x) at ts) = ⊥
IsListed (node (next x) at ts) = ⊥
IsListed (node (operator_call f) at ts) = ⊥
IsListed (node strings at ts) = ⊥
IsListed (node (strict o) at ts) = StrictListed o
IsListed t = Unit {0}
