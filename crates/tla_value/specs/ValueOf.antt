-- The value that a value in memory is seen as.
use Rattle.std.specs.Prelude.{◌≡◌, true}
use Rattle.tla_value.specs.declared.value.Value.TheInside.{Inside}
use Rattle.tla_value.specs.declared.value.Kind.{Kind}
use Rattle.tla_value.specs.declared.value.Kind.TheVariants.{Bool, Int, Text, Model, Set, Fun}
use Rattle.tla_value.specs.Value.{Value, Values, truth, int, text, model, set, fun, values_in}
use Rattle.tla_value.specs.Order.{IsCanonical, AreCanonical}
use Rattle.tla_value.specs.Limits.{fits, all_fit}

abbrev pub kind_value : Kind → Value
kind_value (Bool b) = truth b
kind_value (Int z) = int z
kind_value (Text w) = text w
kind_value (Model w) = model w
kind_value (Set vs) = set (values_in vs)
kind_value (Fun ds vs) = fun (values_in ds) (values_in vs)

abbrev pub view_of : Inside → Value
view_of a = kind_value a.kind

-- what is so of every value in memory: it is canonical, and within the limits of a run
abbrev pub IsStored : Value → Type 0
IsStored v = IsCanonical v × (fits v ≡ true)

abbrev pub IsStoredInside : Inside → Type 0
IsStoredInside a = IsStored (view_of a)

abbrev pub AreStored : Values → Type 0
AreStored vs = AreCanonical vs × (all_fit vs ≡ true)
