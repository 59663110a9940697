-- Values that are there or not.
use Rattle.std.specs.Prelude.{List, [], ◌∷◌, Option, Some, None}
use Rattle.tla_value.specs.Value.{Value}

abbrev pub listed_option : Option Value → List Value
listed_option None = []
listed_option (Some v) = v ∷ []
