-- Values that can be written as bytes: each string in them is of characters that a string may hold, by themselves or by escapes ("Specifying Systems", section 16.1.10).
use Rattle.tla_tree.specs.laws.Writable.{IsString}
use Rattle.tla_value.specs.Value.{Value, Values, truth, int, text, model, set, fun, no_values, and}

abbrev mutual
  pub HasStrings : Value → Type 0
  HasStrings (truth b) = Unit {0}
  HasStrings (int z) = Unit {0}
  HasStrings (text w) = IsString w
  HasStrings (model w) = Unit {0}
  HasStrings (set vs) = HaveStrings vs
  HasStrings (fun ds vs) = HaveStrings ds × HaveStrings vs

  pub HaveStrings : Values → Type 0
  HaveStrings no_values = Unit {0}
  HaveStrings (and v vs) = HasStrings v × HaveStrings vs
