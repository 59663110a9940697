-- What is put in after variables are primed: an expression for the old stack, and then that of a single process for `self`
-- ("A PlusCal User's Manual", section 3.3, processes, and section 3.4, procedures).
use Rattle.std.specs.Prelude.{ℕ, List, Option, Some, None}
use Rattle.std.specs.Option.{option_map}
use Rattle.tla_tree.specs.Tree.{Word, Tree, graft}
use Rattle.tla_tree.specs.Pool.{at}
use Rattle.module_tree.specs.Module.{Items}
use Rattle.module_tree.specs.Formulas.{self}
use Rattle.module_write.specs.InMemory.{MaybeIn}
use Rattle.action_builder.specs.SingleProcess.{in_place_of, graft_items}
use Rattle.action_builder.specs.Written.{old_stack}
use Rattle.right_sides.specs.declared.after.After.{After}

-- an expression for the name, if there is one
abbrev pub put_one : Word → Option Tree → Tree → Tree
put_one x None t = t
put_one x (Some e) t = graft (in_place_of x e) t

abbrev pub put_items : Word → Option Tree → Items → Items
put_items x None is = is
put_items x (Some e) is = graft_items (in_place_of x e) is

abbrev pub after_tree : List Tree → After → Tree → Tree
after_tree ts a t = put_one self (option_map (at ts) a.single) (put_one old_stack (option_map (at ts) a.old) t)

abbrev pub after_items : List Tree → After → Items → Items
after_items ts a is = put_items self (option_map (at ts) a.single) (put_items old_stack (option_map (at ts) a.old) is)

-- both numbers are below m
pub record AfterIn (m : ℕ) (a : After) : Type 0 where
  pub old : MaybeIn m a.old
  pub single : MaybeIn m a.single
