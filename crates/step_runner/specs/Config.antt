-- Files of constants: an item `Name = value` for each constant of the module that is read.
use Rattle.std.specs.Prelude.{◌≡◌, ℕ, false, cond, bytes_eq, codes, Some}
use Rattle.tla_token.specs.declared.rule.Refusal.{Refusal}
use Rattle.tla_tree.specs.Tree.{words}
use Rattle.tla_value.specs.States.{Entries, value_of}
use Rattle.tla_value.specs.Definitions.{Valuation}
use Rattle.tla_value.specs.Outside.{Outside}
use Rattle.pcal_tree.specs.Calls.{defaultInitValue}
use Rattle.step_runner.specs.Fronts.{Text, bad_line}
use Rattle.step_runner.specs.Items.{SpellsValues, OffendsAt}

abbrev pub SpellsConfig : Outside → Text → Entries → Type 0
SpellsConfig o x es = SpellsValues false (words o.constants) x es

abbrev pub ConfigOffends : Outside → Text → Refusal → Type 0
ConfigOffends o x r = (at : ℕ) × OffendsAt false (words o.constants) x at × (r ≡ bad_line x at)

-- the constants of a run; `defaultInitValue` is given by itself
abbrev pub constants_of : Entries → Valuation
constants_of es x = cond (bytes_eq x (codes "defaultInitValue")) (Some defaultInitValue) (value_of es x)
