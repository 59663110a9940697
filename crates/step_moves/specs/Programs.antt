-- The program that one in memory stands for.
use Rattle.std.specs.Prelude.{◌≡◌, ◌≤◌, ◌++◌, List, length, map, take}
use Rattle.tla_value.specs.States.{value_of}
use Rattle.tla_value.specs.Limits.{bounded}
use Rattle.tla_value.specs.Definitions.{Definition}
use Rattle.tla_value.specs.Defs.{definitions_at, DefinitionsIn}
use Rattle.pcal_tree.specs.InMemory.{algorithm_at, past_algorithm}
use Rattle.pcal_tree.specs.Program.{Program, inner}
use Rattle.written_names.specs.Units.{naming_of}
use Rattle.step_moves.specs.declared.program.Program as code

abbrev pub program_at : code.Program → Program
program_at p = record {
  check = bounded;
  constants = value_of p.constants.now;
  outside = definitions_at p.pool.now (take p.outside p.defs.now);
  algorithm = algorithm_at p.pool.now p.algorithm.now;
  naming = naming_of p.naming.now;
}

-- those outside the algorithm, and then its own
abbrev pub all_definitions : Program → List Definition
all_definitions P = P.outside ++ map inner P.algorithm.definitions

-- its numbers are of its pool, and its definitions are all
pub record IsWhole (p : code.Program) : Type 0 where
  pub within : past_algorithm p.algorithm.now ≤ length p.pool.now
  pub bodies : DefinitionsIn (length p.pool.now) p.defs.now
  pub definitions : definitions_at p.pool.now p.defs.now ≡ all_definitions (program_at p)
