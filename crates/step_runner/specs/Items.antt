-- Items that give names their values, free over lines: x = v, or /\ x = v.
use Rattle.std.specs.Prelude.{◌≡◌, ◌⊎◌, ◌<◌, ℕ, Bool, true, false, not, ◌&&◌, List, [], ◌∷◌, ◌++◌, length, map, codes, Option, Some, option_and_then, option_map}
use Rattle.std.specs.List.{list_all}
use Rattle.tla_token.specs.Signs.{is_among}
use Rattle.tla_tree.specs.Tree.{Word}
use Rattle.tla_value.specs.Value.{Value}
use Rattle.tla_value.specs.States.{Entries}
use Rattle.tla_value.specs.ValueSeen.{SpellsFrom}
use Rattle.step_runner.specs.Fronts.{Text, next_at, name_at, past}

-- ---- one item

-- the name, and where its value begins
abbrev pub value_begins : Text → Word × ℕ → Option (Word × ℕ)
value_begins x n = option_map (λ to. (n.0, next_at x to)) (past (codes "=") x (next_at x n.1))

abbrev pub named_at : Text → ℕ → Option (Word × ℕ)
named_at x at = option_and_then (value_begins x) (name_at x at)

-- with `/\` before it where that is so
abbrev pub item_begins : Bool → Text → ℕ → Option (Word × ℕ)
item_begins false x at = named_at x at
item_begins true x at = option_and_then (λ to. named_at x (next_at x to)) (past (codes "/\\") x at)

-- an item from a place to the end of its value
abbrev pub SpellsItem : Bool → Text → ℕ → ℕ → Word × Value → Type 0
SpellsItem bullet x at to e = (from : ℕ) × (item_begins bullet x at ≡ Some (e.0, from)) × SpellsFrom x from to e.1

-- ---- items one after the other

-- from a place to the end of the last value
abbrev pub SpellsItems : Bool → Text → ℕ → Entries → ℕ → Type 0
SpellsItems bullet x at [] end = at ≡ end
SpellsItems bullet x at (e ∷ es) end = (to : ℕ) × SpellsItem bullet x (next_at x at) to e × SpellsItems bullet x to es end

abbrev pub names_of : Entries → List Word
names_of es = map (λ e. e.0) es

-- a known name that isn't among those before
abbrev pub is_new : List Word → List Word → Word → Bool
is_new known before x = is_among known x && not (is_among before x)

abbrev pub are_new : List Word → List Word → List Word → Bool
are_new known before [] = true
are_new known before (x ∷ xs) = is_new known before x && are_new known (before ++ (x ∷ [])) xs

-- none of the known names is missing
abbrev pub are_all : List Word → List Word → Bool
are_all known xs = list_all (is_among xs) known

-- ---- a whole text

-- it gives each known name one value, and has nothing else
abbrev pub SpellsValues : Bool → List Word → Text → Entries → Type 0
SpellsValues bullet known x es =
    (end : ℕ) × SpellsItems bullet x 0 es end × (next_at x end ≡ length x) × (are_new known [] (names_of es) ≡ true) × (are_all known (names_of es) ≡ true)

-- at a place there is no item, or one with a name that is unknown or was there before
abbrev pub NoNewItem : Bool → List Word → List Word → Text → ℕ → Type 0
NoNewItem bullet known before x at = (at < length x) × ((to : ℕ) (e : Word × Value) → SpellsItem bullet x at to e → is_new known before e.0 ≡ false)

-- the first offence is at a place: at what is no item with a new name, or at the text's end, where a name is missing
abbrev pub OffendsAt : Bool → List Word → Text → ℕ → Type 0
OffendsAt bullet known x at =
    (es : Entries) × (end : ℕ) × SpellsItems bullet x 0 es end × (next_at x end ≡ at) × (are_new known [] (names_of es) ≡ true)
    × (NoNewItem bullet known (names_of es) x at ⊎ ((at ≡ length x) × (are_all known (names_of es) ≡ false)))
