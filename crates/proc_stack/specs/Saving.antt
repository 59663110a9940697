-- What goes on the stack, in memory.
use Rattle.std.specs.Prelude.{◌≡◌, ℕ, ◌<◌, List, length, Option, option_map, IfSome}
use Rattle.tla_tree.specs.Tree.{Tree}
use Rattle.tla_tree.specs.Pool.{at}
use Rattle.proc_stack.specs.declared.saving.Saved.{Saved}

-- its numbers are below m
pub record SavedIn (m : ℕ) (s : Saved) : Type 0 where
  pub back : s.back < m
  pub from : IfSome s.from (λ r. r < m)
  pub rest : s.rest < m

-- it stands for these trees
pub record IsSaved (ts : List Tree) (s : Saved) (label : Tree) (values : Option Tree) (under : Tree) : Type 0 where
  pub within : SavedIn (length ts) s
  pub back : at ts s.back ≡ label
  pub from : option_map (at ts) s.from ≡ values
  pub rest : at ts s.rest ≡ under
