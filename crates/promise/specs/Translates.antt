-- What it is for a text to be the translation of an algorithm: it reads as one module, which has the algorithm's variables under their written
-- names and the definitions of its `define` block, and whose Next and Init say what the algorithm does.
use Rattle.std.specs.Prelude.{◌≡◌, ℕ, Bool, List, map}
use Rattle.pcal_tree.specs.Algorithm.{Algorithm}
use Rattle.pcal_tree.specs.Program.{inner}
use Rattle.module_tree.specs.Module.{Region, Module}
use Rattle.module_tree.specs.Around.{Around}
use Rattle.module_tree.specs.Reading.{Reads}
use Rattle.module_tree.specs.laws.PlacelessRegion.{definition_placeless}
use Rattle.promise.specs.ConstantsAndStates.{variables_of}
use Rattle.promise.specs.NextAndInit.{NextIs, InitIs}

-- the translation has the definitions of the algorithm's `define` block, in their order; places don't count ("A PlusCal User's Manual", section 3.6, definitions)
abbrev pub Defines : Region → Algorithm → Type 0
Defines r g = map definition_placeless r.definitions ≡ map definition_placeless (map inner g.definitions)

-- the text w translates the labelled algorithm g that is in the text x, with the option `--no-terminating` or without
pub record Translates (no_terminating : Bool) (x : List ℕ) (g : Algorithm) (w : List ℕ) : Type 0 where
  pub module_of : Module
  pub around : Around x module_of w
  pub reads : Reads w module_of
  pub only : (n : Module) → Reads w n → n ≡ module_of
  pub variables : module_of.region.variables ≡ variables_of g module_of
  pub vars : module_of.region.vars ≡ variables_of g module_of
  pub definitions : Defines module_of.region g
  pub next : NextIs no_terminating g module_of
  pub init : InitIs g module_of
