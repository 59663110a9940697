-- How the first values of variables are evaluated ("A PlusCal User's Manual", sections 3.1, 3.3 and 3.4, on declarations): as they are declared, or by written names.
use Rattle.std.specs.Prelude.{List, None}
use Rattle.tla_tree.specs.Tree.{Tree}
use Rattle.tla_value.specs.Value.{Value, Outcome}
use Rattle.tla_value.specs.Definitions.{Definition, no_state}
use Rattle.tla_value.specs.Meaning.{eval}
use Rattle.pcal_tree.specs.Algorithm.{Routine}
use Rattle.pcal_tree.specs.Scope.{State, value_of}
use Rattle.pcal_tree.specs.Program.{Program, Actor, routine_scope, global_scope}
use Rattle.pcal_tree.specs.Variables.{vars}
use Rattle.action_builder.specs.InitialFormulas.{written_in}
use Rattle.action_builder.specs.laws.Ready.{values_of}
use Rattle.action_builder.specs.laws.WrittenScope.{written_env, written_scope}

-- of expressions outside of processes, which are those of globals and the sets of variables of many processes; and of those of a routine for a process
pub record Evaluation : Type 0 where
  pub outside : Tree → State → Outcome Value
  pub inside : Actor → Routine → Tree → State → Outcome Value

abbrev pub as_declared : Program → Evaluation
as_declared P = record {
  outside = λ e s. value_of P.check e (global_scope P) s;
  inside = λ v u e s. value_of P.check e (routine_scope P v u) s;
}

-- where every variable of the translation stands for itself, and there is no `self`
abbrev pub value_outside : Program → List Definition → Tree → State → Outcome Value
value_outside P extra e s = (eval P.check e (written_env P extra None (values_of (vars P) s) no_state)).value

abbrev pub as_written : Program → List Definition → Evaluation
as_written P extra = record {
  outside = value_outside P extra;
  inside = λ v u e s. value_of P.check (written_in P u e) (written_scope P extra v) s;
}
