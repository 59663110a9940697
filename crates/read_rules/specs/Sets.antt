-- Names that paths have assigned, in memory.
use Rattle.std.specs.Prelude.{List, [], ◌∷◌, ◌++◌, Option, map, cond}
use Rattle.std.specs.Option.{option_map}
use Rattle.pcal_tree.specs.laws.MacroSpots.{Origin, earlier, assigned, Trail}
use Rattle.read_rules.specs.declared.assigned.Assigned.{Assigned}

abbrev pub origins : Assigned → List Origin
origins a = cond a.earlier (earlier ∷ []) [] ++ map assigned a.names

abbrev pub trail_of : Option Assigned → Trail
trail_of p = option_map origins p
