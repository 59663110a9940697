-- Which names have values in a state in memory, and settings in memory as those that they stand for. The state that one in memory stands for is `state_of`: a name
-- without a value stands for FALSE there, as before the first state.
pub use Rattle.step_runner.specs.Explained.{state_of}
use Rattle.std.specs.Prelude.{◌≡◌, List, true, false, map, All}
use Rattle.std.specs.Option.{is_some}
use Rattle.tla_token.specs.Signs.{is_among}
use Rattle.tla_tree.specs.Tree.{Word}
use Rattle.tla_value.specs.States.{Entries, value_of}
use Rattle.pcal_tree.specs.Assign as pure
use Rattle.step_moves.specs.declared.setting.Setting.{Setting}

-- just these names have values
abbrev pub HasJust : List Word → Entries → Type 0
HasJust xs m = (x : Word) → is_some (value_of m x) ≡ is_among xs x

abbrev pub setting_of : Setting → pure.Setting
setting_of one = record { place = one.place; part = record { variable = one.variable.now; path = one.path.items }; value = one.value }

abbrev pub settings_of : List Setting → List pure.Setting
settings_of all = map setting_of all

-- all of them are of these names
abbrev pub AreOf : List Word → List Setting → Type 0
AreOf xs all = All (λ (one : Setting). is_among xs one.variable.now ≡ true) all
