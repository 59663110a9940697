-- The parts of a value in memory are less high than the value.
use Rattle.std.specs.Prelude.{◌≤◌, max}
use Rattle.std.proofs.Common.{arith}
use Rattle.tla_value.specs.declared.value.Kind.{Kind}
use Rattle.tla_value.specs.declared.value.Kind.TheVariants.{Bool, Int, Text, Model, Set, Fun}
use Rattle.tla_value.specs.declared.value.Value.TheDeep.{deep-Kind}
use Rattle.tla_value.specs.Code.{height}
use Rattle.tla_value.specs.ValueOf.{kind_value}

pub parts_fall : (k : Kind) → max (deep-Kind k) 0 ≤ height (kind_value k)
parts_fall (Bool b) = omega arith
parts_fall (Int z) = omega arith
parts_fall (Text w) = omega arith
parts_fall (Model w) = omega arith
parts_fall (Set vs) = omega arith
parts_fall (Fun ds vs) = omega arith
