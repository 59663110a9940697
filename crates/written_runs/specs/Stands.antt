-- The label that a value of pc names, among the labels of routines in the order of the text ("A PlusCal User's Manual", section 3.7, labels).
use Rattle.std.specs.Prelude.{List, [], ◌∷◌, cond, Option, None}
use Rattle.std.specs.Option.{option_or, option_map}
use Rattle.tla_value.specs.Value.{Value}
use Rattle.tla_value.specs.Order.{same}
use Rattle.pcal_tree.specs.Algorithm.{Routine}
use Rattle.pcal_tree.specs.Program.{Program}
use Rattle.pcal_tree.specs.Calls.{label_value}
use Rattle.pcal_tree.specs.Step.{Stand}
use Rattle.pcal_tree.specs.FirstTrouble.{stand_at}
use Rattle.step_spots.specs.Spots.{Spot, routine_spots, spot_named}

-- a step from it begins as from the first of its name
abbrev pub stand_of : Routine → List Spot → Spot → Option Stand
stand_of u all s = stand_at u s.name.word (option_map (λ (z : Spot). z.begins) (spot_named all s.name.word))

-- the first of some spots of a routine that the value names
abbrev pub stand_among : Program → Value → Routine → List Spot → List Spot → Option Stand
stand_among P w u all [] = None
stand_among P w u all (s ∷ ss) = cond (same w (label_value P u s.name.word)) (stand_of u all s) (stand_among P w u all ss)

abbrev pub stand_in : Program → Value → Routine → Option Stand
stand_in P w u = stand_among P w u (routine_spots u) (routine_spots u)

-- of routines in turn
abbrev pub stand_by_spots : Program → Value → List Routine → Option Stand
stand_by_spots P w [] = None
stand_by_spots P w (u ∷ us) = option_or (stand_in P w u) (stand_by_spots P w us)
