-- What code finds of an item, and what is read of items so far.
use Rattle.std.specs.Prelude.{◌≡◌, ℕ, ◌<◌, ◌≤◌, Bool, true, List, [], ◌∷◌, ◌++◌, length, codes, Option, option_map, Result, Ok, Err}
use Rattle.tla_tree.specs.Tree.{Word}
use Rattle.tla_value.specs.Value.{Value}
use Rattle.tla_value.specs.States.{Entries}
use Rattle.step_runner.specs.Fronts.{Text, next_at, past}
use Rattle.step_runner.specs.Items.{SpellsItem, SpellsItems, names_of, is_new, are_new, NoNewItem}
use Rattle.run_files.specs.declared.items.Halt.{Halt}
use Rattle.run_files.specs.declared.items.Halt.TheVariants as halt

-- where the value begins behind a name that ends at a place
abbrev pub behind : Text → ℕ → Option ℕ
behind x at = option_map (next_at x) (past (codes "=") x (next_at x at))

-- an item with a new name is read, and where it ends; or there is none
abbrev pub ItemAnswer : Bool → List Word → Text → ℕ → Entries → Entries → Result ℕ Halt → Type 0
ItemAnswer b known x at es fs (Ok to) =
    (e : Word × Value) × SpellsItem b x at to e × (fs ≡ es ++ e ∷ []) × (is_new known (names_of es) e.0 ≡ true) × (at < to) × (to ≤ length x)
ItemAnswer b known x at es fs (Err halt.Memory) = Unit {0}
ItemAnswer b known x at es fs (Err (halt.At n)) = (n ≡ at) × NoNewItem b known (names_of es) x at

-- these items with new names are read from the beginning on; behind them is a place
abbrev pub SoFar : Bool → List Word → Text → Entries → ℕ → Type 0
SoFar b known x es at = (end : ℕ) × SpellsItems b x 0 es end × (next_at x end ≡ at) × (are_new known [] (names_of es) ≡ true)

-- items are read to the end, or up to where no item with a new name is
abbrev pub ItemsAnswer : Bool → List Word → Text → Result Entries Halt → Type 0
ItemsAnswer b known x (Ok es) = SoFar b known x es (length x)
ItemsAnswer b known x (Err halt.Memory) = Unit {0}
ItemsAnswer b known x (Err (halt.At at)) = (es : Entries) × SoFar b known x es at × NoNewItem b known (names_of es) x at
