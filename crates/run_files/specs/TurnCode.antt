-- A code of steps of a script, by which a proof tells them apart.
use Rattle.std.specs.Coded.{Coded, codes}
use Rattle.tla_value.specs.Code.{value_code}
use Rattle.pcal_tree.specs.Script.{Turn}

pub turn_code : Coded Turn
turn_code = hlevel (codes, value_code)
