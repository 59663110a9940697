-- A state in memory while a start is made: it has just the variables of the translation, in their order.
use Rattle.std.specs.Prelude.{◌≡◌, List, map}
use Rattle.tla_token.specs.declared.place.Place.{Place}
use Rattle.tla_tree.specs.Tree.{Word, Tree}
use Rattle.tla_value.specs.Value.{Value, Values, Outcome, ◌>>=◌}
use Rattle.tla_value.specs.Limits.{bounded}
use Rattle.tla_value.specs.States.{Entries}
use Rattle.tla_value.specs.Stops.{members_at}
use Rattle.pcal_tree.specs.Program.{Program}
use Rattle.pcal_tree.specs.Scope.{State, value_of}
use Rattle.pcal_tree.specs.Variables.{vars}
use Rattle.step_moves.specs.declared.program.Program as code
use Rattle.step_moves.specs.Programs.{program_at, IsWhole}
use Rattle.step_moves.specs.ScopeIn.{scope_in}

abbrev pub names_in : Entries → List Word
names_in m = map (λ (e : Word × Value). e.0) m

pub record IsBegun (p : code.Program) (m : Entries) : Type 0 where
  pub whole : IsWhole p
  pub order : names_in m ≡ vars (program_at p)

-- the value of an expression where these names are bound
abbrev pub value_by : Program → List Word → List Value → Tree → State → Outcome Value
value_by P xs vs e s = value_of bounded e (scope_in P xs vs) s

-- the members of the set that an expression is there
abbrev pub members_by : Program → List Word → List Value → Place → Tree → State → Outcome Values
members_by P xs vs at e s = value_by P xs vs e s >>= members_at at
