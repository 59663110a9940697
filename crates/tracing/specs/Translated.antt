-- The translation of a module's algorithm in memory, and the module that it stands for.
use Rattle.std.specs.Prelude.{◌≡◌, Bool, [], length}
use Rattle.tla_value.specs.Defs.{definitions_at, DefinitionsIn}
use Rattle.tla_value.specs.Outside.{Outside}
use Rattle.pcal_tree.specs.Algorithm.{Algorithm}
use Rattle.module_tree.specs.Module.{Module}
use Rattle.module_tree.specs.ModuleTruth.{definitions_in}
use Rattle.action_builder.specs.WrittenNames.{with_names}
use Rattle.translation.specs.Region.{region_of}
use Rattle.module_write.specs.InMemory.{region_at, RegionIn}
use Rattle.tracing.specs.declared.translated.Translation.{Translation}

-- the trees of its translation have the places of the algorithm; its name, which doesn't matter, is none
abbrev pub placed_module : Bool → Outside → Algorithm → Module
placed_module no_terminating o g = record { title = []; outside = o; region = region_of no_terminating (with_names o g) }

-- it stands for this module: its units, and all definitions that the module's formulas see
pub record StandsFor (t : Translation) (m : Module) : Type 0 where
  pub region : region_at t.pool t.region ≡ m.region
  pub definitions : definitions_at t.pool t.defs ≡ definitions_in m

-- its numbers are of its pool
pub record IsWithin (t : Translation) : Type 0 where
  pub region : RegionIn (length t.pool) t.region
  pub bodies : DefinitionsIn (length t.pool) t.defs

-- it is the translation of this algorithm, beside what a module has outside
pub record IsTranslation (no_terminating : Bool) (o : Outside) (g : Algorithm) (t : Translation) : Type 0 where
  pub stands : StandsFor t (placed_module no_terminating o g)
  pub within : IsWithin t
