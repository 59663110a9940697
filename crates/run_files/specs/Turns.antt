-- What code finds of the steps of a script.
use Rattle.std.specs.Prelude.{◌≡◌, ℕ, ◌≤◌, Bool, List, ◌++◌, length, Option, Some, None, Result, Ok, Err, Vec}
use Rattle.std.specs.Global.{Global}
use Rattle.tla_value.specs.Value.{Value}
use Rattle.pcal_tree.specs.Script.{Turn}
use Rattle.step_runner.specs.Fronts.{Text}
use Rattle.step_runner.specs.Stretches.{Stretch}
use Rattle.step_runner.specs.Script as pure
use Rattle.step_runner.specs.Script.{SpellsWho, SpellsTurn, SpellTurns, TurnOffends}
use Rattle.run_files.specs.declared.items.Halt.{Halt}
use Rattle.run_files.specs.declared.items.Halt.TheVariants as halt
use Rattle.run_files.specs.declared.script.Script.{Script}
use Rattle.run_files.specs.Lines.{told_from}

abbrev pub script_of : Script → pure.Script
script_of s = record { choices = s.choices.items; turns = s.turns.items }

-- whose step it is, and where that ends
abbrev pub WhoAnswer : Bool → Text → ℕ → Option (Option Value × ℕ) → Type 0
WhoAnswer m l at None = (to : ℕ) (who : Option Value) → SpellsWho m l at to who → ⊥
WhoAnswer m l at (Some w) = SpellsWho m l at w.1 w.0 × (w.1 ≤ length l)

abbrev pub TurnAnswer : Bool → Text → Option Turn → Type 0
TurnAnswer m l None = (n : Turn) → SpellsTurn m l n → ⊥
TurnAnswer m l (Some n) = SpellsTurn m l n

-- the lines from one place up to another are steps
abbrev pub TurnsSoFar : Bool → Text → ℕ → List Turn → ℕ → Type 0
TurnsSoFar m x from ns at = (ls : List Stretch) × (told_from x from ≡ ls ++ told_from x at) × SpellTurns m ls ns

abbrev pub TurnsAnswer : Bool → Text → ℕ → Result (Vec Turn Global) Halt → Type 0
TurnsAnswer m x from (Ok ns) = SpellTurns m (told_from x from) ns.items
TurnsAnswer m x from (Err halt.Memory) = Unit {0}
TurnsAnswer m x from (Err (halt.At n)) = TurnOffends m (told_from x from) n × (n ≤ length x)
