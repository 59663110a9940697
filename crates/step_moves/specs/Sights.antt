-- The value of a name in a state: that of a variable, or else of a constant.
use Rattle.std.specs.Option.{option_or}
use Rattle.tla_value.specs.Definitions.{Valuation}
use Rattle.tla_value.specs.States.{value_of}
use Rattle.step_moves.specs.declared.sight.Sight.{Sight}

abbrev pub seen_value : Sight → Valuation
seen_value g x = option_or (value_of g.variables.now x) (value_of g.constants.now x)
