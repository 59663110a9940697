-- The value that is at hand.
use Rattle.tla_value.specs.Value.{Value}
use Rattle.eval_scopes.specs.declared.got.Held.{Held}
use Rattle.eval_scopes.specs.declared.got.Held.TheVariants.{Own, There}

abbrev pub held_value : Held → Value
held_value (Own v) = v
held_value (There v) = v.now
