-- A module in memory that is asked what it says of states.
use Rattle.std.specs.Prelude.{◌≡◌, ◌++◌, ℕ, zero, suc, List, [], length, cond, bytes_eq, slice_get, Bool, false, Option, Some, None}
use Rattle.std.specs.Option.{option_map}
use Rattle.tla_tree.specs.Tree.{Word}
use Rattle.tla_tree.specs.Pool.{at}
use Rattle.tla_value.specs.Defs.{definitions_at, DefinitionsIn}
use Rattle.algorithm_limits.specs.Numbers.{number_of}
use Rattle.module_tree.specs.Module as tree
use Rattle.module_tree.specs.Module.{Module}
use Rattle.module_tree.specs.ModuleTruth.{definitions_in, terminating}
use Rattle.module_write.specs.declared.«module».Action.{Action}
use Rattle.module_write.specs.InMemory.{actions_at, ways_at, region_at, RegionIn}
use Rattle.action_truth.specs.declared.asked.Asked.{Asked}

-- it is this module: its translation, and all definitions that its formulas see
pub record IsAsked (a : Asked) (m : Module) : Type 0 where
  pub region : region_at a.pool.now a.region.now ≡ m.region
  pub definitions : definitions_at a.pool.now a.defs.now ≡ definitions_in m

abbrev pub is_titled : Word → Option Action → Bool
is_titled x None = false
is_titled x (Some a) = bytes_eq a.title x

-- the number after that of the last of the first n actions that has a name; 0 where none has it
abbrev pub last_titled : List Action → Word → ℕ → ℕ
last_titled acts x zero = 0
last_titled acts x (suc n) = cond (is_titled x (slice_get acts n)) (suc n) (last_titled acts x n)

-- its numbers are of its pool, each name of an action has the number of its last, and where no value is wanted there is none
pub record IsReady (a : Asked) : Type 0 where
  pub region : RegionIn (length a.pool.now) a.region.now
  pub bodies : DefinitionsIn (length a.pool.now) a.defs.now
  pub titles : (x : Word) → number_of a.titles.now x ≡ last_titled a.region.now.actions.items x (length a.region.now.actions.items)
  pub nothing : a.nothing.now ≡ []

-- all its actions, with Terminating
abbrev pub all_actions : Asked → List tree.Action
all_actions a = actions_at a.pool.now a.region.now.actions.items ++ terminating a.region.now.vars (option_map (at a.pool.now) a.region.now.ended)

-- the disjuncts of its Next
abbrev pub next_ways : Asked → List tree.Way
next_ways a = ways_at a.pool.now a.region.now.next.items
