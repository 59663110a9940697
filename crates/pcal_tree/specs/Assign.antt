-- Assignments to parts of variables ("A PlusCal User's Manual", section 3.2, on assignment).
use Rattle.std.specs.Prelude.{List, [], ◌∷◌, Ok}
use Rattle.tla_token.specs.declared.place.Place.{Place}
use Rattle.tla_value.specs.Value.{Value, Outcome, ◌>>=◌}
use Rattle.tla_value.specs.Stops.{Check}
use Rattle.tla_value.specs.Strict.{changed_at}
use Rattle.pcal_tree.specs.Algorithm.{Assignments, no_assignments, assignment}
use Rattle.pcal_tree.specs.Scope.{State, put, Part, Scope, reach, value_of}
use Rattle.tla_tree.specs.Tree.{root_place}

-- a part of a variable, its new value, and the place at which setting it faults
pub record Setting : Type 0 where
  pub place : Place
  pub part : Part
  pub value : Value

abbrev pub set_one : Check → Setting → State → Outcome State
set_one c m s = do
  w ← changed_at m.place m.part.path m.value (s m.part.variable)
  u ← c m.place w
  Ok (put m.part.variable u s)

-- from left to right
abbrev pub set_all : Check → List Setting → State → Outcome State
set_all c [] s = Ok s
set_all c (m ∷ ms) s = (set_one c m s) >>= (set_all c ms)

-- all subscripts and right sides, in the written order
abbrev pub settings : Check → Assignments → Scope → State → Outcome (List Setting)
settings c no_assignments sc s = Ok []
settings c (assignment l e ms) sc s = do
  p ← reach c l sc s
  v ← value_of c e sc s
  rest ← settings c ms sc s
  Ok (record { place = root_place l; part = p; value = v } ∷ rest)

-- x := a || y[i] := b
abbrev pub after_assignments : Check → Assignments → Scope → State → Outcome State
after_assignments c ms sc s = do
  all ← settings c ms sc s
  set_all c all s
