-- What the units of a translation in memory stand for, where the pool has these trees; and that their numbers are of the pool.
use Rattle.std.specs.Prelude.{ℕ, ◌<◌, List, map}
use Rattle.std.specs.List.{AllByRecursion}
use Rattle.tla_tree.specs.Tree.{Tree}
use Rattle.tla_tree.specs.Pool.{at, AllBelow}
use Rattle.tla_value.specs.Defs.{definition_at}
use Rattle.module_tree.specs.Module.{RegionUnit, constant_unit, variables_unit, definition_unit, vars_unit, process_set_unit, init_unit, action_unit, terminating_unit, next_unit, spec_unit, termination_unit}
use Rattle.module_write.specs.InMemory.{action_at, ways_at, fairness_at, BodyIn, WaysIn, AllFairnessIn}
use Rattle.region_made.specs.declared.unit.Unit.{Unit as Kept}
use Rattle.region_made.specs.declared.unit.Unit.TheVariants as unit

abbrev pub unit_at : List Tree → Kept → RegionUnit
unit_at ts (unit.Constant xs) = constant_unit xs
unit_at ts (unit.Variables xs) = variables_unit xs
unit_at ts (unit.Definition d) = definition_unit (definition_at ts d)
unit_at ts (unit.Vars xs) = vars_unit xs
unit_at ts (unit.ProcessSet e) = process_set_unit (at ts e)
unit_at ts (unit.Init es) = init_unit (map (at ts) es.items)
unit_at ts (unit.Action a) = action_unit (action_at ts a)
unit_at ts (unit.Terminating e) = terminating_unit (at ts e)
unit_at ts (unit.Next ys) = next_unit (ways_at ts ys.items)
unit_at ts (unit.Spec fs) = spec_unit (map (fairness_at ts) fs.items)
unit_at ts (unit.Termination e) = termination_unit (at ts e)

abbrev pub units_at : List Tree → List Kept → List RegionUnit
units_at ts us = map (unit_at ts) us

-- ---- their numbers are below m

abbrev pub UnitIn : ℕ → Kept → Type 0
UnitIn m (unit.Constant xs) = Unit {0}
UnitIn m (unit.Variables xs) = Unit {0}
UnitIn m (unit.Definition d) = d.body < m
UnitIn m (unit.Vars xs) = Unit {0}
UnitIn m (unit.ProcessSet e) = e < m
UnitIn m (unit.Init es) = AllBelow m es.items
UnitIn m (unit.Action a) = BodyIn m a.body
UnitIn m (unit.Terminating e) = e < m
UnitIn m (unit.Next ys) = WaysIn m ys.items
UnitIn m (unit.Spec fs) = AllFairnessIn m fs.items
UnitIn m (unit.Termination e) = e < m

abbrev pub UnitsIn : ℕ → List Kept → Type 0
UnitsIn m us = AllByRecursion (UnitIn m) us
