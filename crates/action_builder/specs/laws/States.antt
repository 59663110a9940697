-- Two states, and the one between them in which some variables have their next values already.
use Rattle.std.specs.Prelude.{◌≡◌, List, [], ◌∷◌, Bool, true, cond, Ok}
use Rattle.tla_tree.specs.Tree.{Word}
use Rattle.tla_value.specs.Value.{Value, Outcome, IsBad, ◌>>=◌}
use Rattle.tla_value.specs.Stops.{Check}
use Rattle.tla_value.specs.Strict.{changed_at}
use Rattle.pcal_tree.specs.Assign.{Setting, settings}
use Rattle.pcal_tree.specs.Algorithm.{Assignments}
use Rattle.pcal_tree.specs.Scope.{State, Scope}
use Rattle.action_builder.specs.Assigned.{Names}

-- t on the names of A, s elsewhere
abbrev pub mid : State → State → Names → State
mid s t A x = cond (A x) (t x) (s x)

-- the same on the names of A
abbrev pub SameOn : Names → State → State → Type 0
SameOn A t u = (x : Word) → A x ≡ true → t x ≡ u x

-- some state that agrees with t on A, in which the verdict is a fault
abbrev pub BadSomewhere : Names → State → (State → Outcome Bool) → Type 0
BadSomewhere A t v = (u : State) × SameOn A u t × IsBad (v u)

-- what assignments to parts of one variable make of its value, from left to right
abbrev pub changed_by : Check → List Setting → Value → Outcome Value
changed_by c [] v = Ok v
changed_by c (m ∷ ms) v = do
  w ← changed_at m.place m.part.path m.value v
  u ← c m.place w
  changed_by c ms u

abbrev pub value_after : Check → Assignments → Scope → State → Value → Outcome Value
value_after c ms sc s v = do
  all ← settings c ms sc s
  changed_by c all v
