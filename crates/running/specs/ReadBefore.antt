-- What was read of a module before the pool grew, and a program over the pool as it is since.
use Rattle.std.specs.Prelude.{◌≡◌, ◌≤◌, List, length, map, take}
use Rattle.tla_tree.specs.Tree.{Tree}
use Rattle.tla_tree.specs.Pool.{Keeps}
use Rattle.tla_value.specs.Defs.{definitions_at}
use Rattle.tla_value.specs.Outside.{Outside, found}
use Rattle.tla_value.specs.States.{Entries, value_of}
use Rattle.pcal_tree.specs.Algorithm.{Algorithm}
use Rattle.pcal_tree.specs.InMemory.{algorithm_at, past_algorithm}
use Rattle.pcal_tree.specs.Names.{naming}
use Rattle.written_names.specs.Units.{naming_of}
use Rattle.module_outside.specs.declared.definition.ReadDefinition.{ReadDefinition}
use Rattle.module_outside.specs.OutsideAt.{definition_seen}
use Rattle.module_outside.specs.FoundAt.{AreHeld}
use Rattle.step_moves.specs.declared.program.Program as code
use Rattle.step_runner.specs.Config.{constants_of}

-- where the pool had these trees, the program's algorithm was this one, and these definitions were those outside of it
pub record WasRead (ts : List Tree) (ds : List ReadDefinition) (p : code.Program) (o : Outside) (g : Algorithm) : Type 0 where
  pub algorithm : algorithm_at ts p.algorithm.now ≡ g
  pub within : past_algorithm p.algorithm.now ≤ length ts
  pub naming : naming_of p.naming.now ≡ naming g o
  pub outside : map (definition_seen ts) ds ≡ o.definitions
  pub held : AreHeld (length ts) ds
  pub kept : Keeps ts p.pool.now

-- the program's first definitions are those outside, and its constants are those of a run
pub record IsFilled (ds : List ReadDefinition) (p : code.Program) (es : Entries) : Type 0 where
  pub outside : (ts : List Tree) → definitions_at ts (take (length ds) p.defs.now) ≡ found (map (definition_seen ts) ds)
  pub many : p.outside ≡ length ds
  pub constants : value_of p.constants.now ≡ constants_of es
