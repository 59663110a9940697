-- Which program a draft in memory is of.
use Rattle.std.specs.Prelude.{◌≡◌, ◌≤◌, List, length}
use Rattle.tla_token.specs.Signs.{is_among}
use Rattle.tla_tree.specs.Tree.{Word, Tree}
use Rattle.pcal_tree.specs.Program.{Program}
use Rattle.pcal_tree.specs.InMemory.{algorithm_at, past_algorithm}
use Rattle.pcal_tree.specs.Variables.{vars}
use Rattle.module_tree.specs.Formulas.{self}
use Rattle.name_bits.specs.NamesIn.{names_in}
use Rattle.written_names.specs.Units.{naming_of}
use Rattle.action_builder.specs.OwnVariables.{is_own_variable}
use Rattle.draft.specs.declared.draft.Draft.{Draft}

-- where the pool has these trees
pub record IsDraft (ts : List Tree) (d : Draft) (P : Program) : Type 0 where
  pub within : past_algorithm d.algorithm.now ≤ length ts
  pub algorithm : algorithm_at ts d.algorithm.now ≡ P.algorithm
  pub naming : naming_of d.naming.now ≡ P.naming
  pub order : d.order.now ≡ vars P
  pub own : (x : Word) → is_among (names_in d.order.now d.own.now) x ≡ is_own_variable P x
  pub this : d.this.now ≡ self
