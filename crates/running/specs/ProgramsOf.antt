-- Which algorithm a program in memory is a run of, beside what a module has outside, with which constants.
use Rattle.std.specs.Prelude.{◌≡◌, take}
use Rattle.tla_value.specs.Defs.{definitions_at}
use Rattle.tla_value.specs.Outside.{Outside, found}
use Rattle.tla_value.specs.States.{Entries, value_of}
use Rattle.pcal_tree.specs.Algorithm.{Algorithm}
use Rattle.pcal_tree.specs.InMemory.{algorithm_at}
use Rattle.pcal_tree.specs.Names.{naming}
use Rattle.written_names.specs.Units.{naming_of}
use Rattle.step_moves.specs.declared.program.Program as code
use Rattle.step_runner.specs.Config.{constants_of}

pub record IsProgramOf (p : code.Program) (o : Outside) (g : Algorithm) (es : Entries) : Type 0 where
  pub algorithm : algorithm_at p.pool.now p.algorithm.now ≡ g
  pub naming : naming_of p.naming.now ≡ naming g o
  pub outside : definitions_at p.pool.now (take p.outside p.defs.now) ≡ found o.definitions
  pub constants : value_of p.constants.now ≡ constants_of es
