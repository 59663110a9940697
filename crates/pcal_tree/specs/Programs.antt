-- Which program an algorithm is: beside what a module has outside, with its written names; and with what code has in memory.
use Rattle.std.specs.Prelude.{List, filter}
use Rattle.tla_tree.specs.Tree.{Tree}
use Rattle.tla_value.specs.declared.names.Instance.{Instance}
use Rattle.tla_value.specs.Stops.{Check}
use Rattle.tla_value.specs.Definitions.{Valuation}
use Rattle.tla_value.specs.Defs.{definitions_at}
use Rattle.tla_value.specs.Outside.{Outside, found}
use Rattle.tla_value.specs.States.{value_of}
use Rattle.pcal_tree.specs.Algorithm.{Naming, Algorithm}
use Rattle.pcal_tree.specs.Names.{naming}
use Rattle.pcal_tree.specs.Program.{Program}

-- of a labelled algorithm, under these limits and with these values of the constants
abbrev pub program_in : Check → Outside → Algorithm → Valuation → Program
program_in c o g values = record { check = c; constants = values; outside = found o.definitions; algorithm = g; naming = naming g o }

-- with names in memory, and an instance: its definitions are those outside and those of the `define` block, which the algorithm has too
abbrev pub program_at : Check → List Tree → Instance → Algorithm → Naming → Program
program_at c ts i g names = record {
  check = c;
  constants = value_of i.constants;
  outside = filter (λ d. d.outside) (definitions_at ts i.defs);
  algorithm = g;
  naming = names;
}
