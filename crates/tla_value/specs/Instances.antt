-- The scope of expressions that are evaluated with an instance: constants, and definitions whose bodies are numbers of a pool.
use Rattle.std.specs.Prelude.{List}
use Rattle.tla_tree.specs.Tree.{Tree}
use Rattle.tla_value.specs.declared.names.Instance.{Instance}
use Rattle.tla_value.specs.Stops.{Check}
use Rattle.tla_value.specs.Meaning.{Env}
use Rattle.tla_value.specs.Definitions.{Valuation, scope_of}
use Rattle.tla_value.specs.States.{value_of}
use Rattle.tla_value.specs.Defs.{definitions_at}

-- in a state and the next one, where the pool has these trees
abbrev pub scope_at : Check → List Tree → Instance → Valuation → Valuation → Env
scope_at c ts i s t = scope_of c (value_of i.constants) (definitions_at ts i.defs) s t
