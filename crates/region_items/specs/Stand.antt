-- What values in memory stand for, beside the forms that they were read of: the same trees; and their numbers are of the pool.
use Rattle.std.specs.Prelude.{◌≡◌, ℕ, ◌<◌, ◌≤◌, List, Vec, length}
use Rattle.std.specs.declared.alloc.Global.{Global}
use Rattle.tla_tree.specs.Tree.{Tree}
use Rattle.tla_tree.specs.Pool.{at}
use Rattle.tla_tree.specs.Spelling.{Phrase, tree_of}
use Rattle.module_tree.specs.Grammar.{ItemForm, ListForm, BranchForms, item_of, items_of, branches_of}
use Rattle.module_write.specs.declared.«module».Item.{Item}
use Rattle.module_write.specs.InMemory.{item_at, items_at, branches_at, past_item, past_items, past_branches}

-- an expression
pub record IsTree (ts : List Tree) (e : ℕ) (a : Phrase) : Type 0 where
  pub below : e < length ts
  pub tree : at ts e ≡ tree_of a

pub record IsItem (ts : List Tree) (x : Item) (f : ItemForm) : Type 0 where
  pub below : past_item x ≤ length ts
  pub means : item_at ts x ≡ item_of f

pub record AreItems (ts : List Tree) (xs : List Item) (f : ListForm) : Type 0 where
  pub below : past_items xs ≤ length ts
  pub means : items_at ts xs ≡ items_of f

pub record AreBranches (ts : List Tree) (bs : List (Vec Item Global)) (f : BranchForms) : Type 0 where
  pub below : past_branches bs ≤ length ts
  pub means : branches_at ts bs ≡ branches_of f
