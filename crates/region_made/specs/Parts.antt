-- Which part of a translation the first of some units are, and which units are behind it.
use Rattle.std.specs.Prelude.{◌≡◌, ℕ, List, [], ◌∷◌, Option, Some, None, option_map, IfSome}
use Rattle.std.specs.Vec.Iter.{into_iter_items}
use Rattle.std.specs.declared.alloc.Global.{Global}
use Rattle.std.specs.declared.vec.IntoIter.{IntoIter}
use Rattle.tla_tree.specs.Tree.{Tree}
use Rattle.tla_value.specs.Definitions.{Definition}
use Rattle.module_tree.specs.Module.{RegionUnit}
use Rattle.module_tree.specs.Module as tree
use Rattle.module_write.specs.InMemory.{region_at, RegionIn}
use Rattle.module_write.specs.declared.«module».Region.{Region}
use Rattle.region_made.specs.declared.unit.Unit.{Unit as Kept}
use Rattle.region_made.specs.UnitsAt.{units_at, UnitsIn}

-- a unit that was taken, if there was one, and those behind it
abbrev pub ahead : Option Kept → IntoIter Kept Global → List Kept
ahead (Some u) us = u ∷ into_iter_items us
ahead None us = []

abbrev pub with_actions : List tree.Action → tree.Region → tree.Region
with_actions acts r = record r { actions = acts }

abbrev pub with_definitions : List Definition → tree.Region → tree.Region
with_definitions ds r = record r { definitions = ds }

-- o is what these units are of a translation, if they are that
pub record IsMade (from : List RegionUnit → Option tree.Region) (us : List Kept) (o : Option Region) : Type 0 where
  pub region : (ts : List Tree) → option_map (region_at ts) o ≡ from (units_at ts us)
  pub within : (m : ℕ) → UnitsIn m us → IfSome o (RegionIn m)

-- the first of these units are a part of the translation, with numbers below m, and rest is behind it
pub record Parts (from behind : List RegionUnit → Option tree.Region) (part : List Tree → tree.Region → tree.Region) (PartIn : ℕ → Type 0) (us rest : List Kept) : Type 0 where
  pub region : (ts : List Tree) → from (units_at ts us) ≡ option_map (part ts) (behind (units_at ts rest))
  pub within : (m : ℕ) → UnitsIn m us → PartIn m × UnitsIn m rest
