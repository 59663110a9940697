-- What code finds of the states of a trace: the lines that begin them, and their values.
use Rattle.std.specs.Prelude.{◌≡◌, ℕ, ◌≤◌, nat_lt, true, List, [], ◌∷◌, ◌++◌, length, drop, if◌then◌else◌, Result, Ok, Err, Vec}
use Rattle.std.specs.Global.{Global}
use Rattle.tla_token.specs.Tokens.{stretch}
use Rattle.tla_tree.specs.Tree.{Word}
use Rattle.tla_value.specs.States.{Entries}
use Rattle.step_runner.specs.Fronts.{Text}
use Rattle.step_runner.specs.Stretches.{Stretch, States, states_in, lines_from}
use Rattle.step_runner.specs.Items.{SpellsValues, OffendsAt}
use Rattle.step_runner.specs.Trace.{SpellStates, StatesOffend}
use Rattle.run_files.specs.declared.items.Halt.{Halt}
use Rattle.run_files.specs.declared.items.Halt.TheVariants as halt
use Rattle.run_files.specs.declared.trace.Heading.{Heading}

-- ---- the lines that begin states

abbrev pub states_from : Text → ℕ → States
states_from x at = states_in (length x) (lines_from at (drop at x))

-- what is before the first state, and each state
abbrev pub each_from : Text → ℕ → List Stretch
each_from x at = (states_from x at).front ∷ (states_from x at).each

abbrev pub piece : Text → ℕ → ℕ → Stretch
piece x from to = record { from = from; text = stretch x from to }

-- no state begins between two places
abbrev pub Passes : Text → ℕ → ℕ → Type 0
Passes x at to = each_from x at ≡ record { from = at; text = stretch x at to ++ (states_from x to).front.text } ∷ (states_from x to).each

-- what is behind the line; nothing, where it is empty
abbrev pub headed : Text → Heading → List Stretch
headed x h = if nat_lt h.from h.to then each_from x h.to else []

-- the first line that begins a state, or nothing at the end
pub record Heads (x : Text) (at : ℕ) (h : Heading) : Type 0 where
  pub after : at ≤ h.from
  pub within : h.from ≤ h.to
  pub inside : h.to ≤ length x
  pub first : each_from x at ≡ piece x at h.from ∷ headed x h

-- ---- the values of states

-- the values of one state are put behind others
abbrev pub StateAnswer : List Word → Text → List Entries → List Entries → Result Unit Halt → Type 0
StateAnswer vars x old new (Ok u) = (es : Entries) × SpellsValues true vars x es × (new ≡ old ++ es ∷ [])
StateAnswer vars x old new (Err halt.Memory) = Unit {0}
StateAnswer vars x old new (Err (halt.At n)) = OffendsAt true vars x n × (n ≤ length x)

-- the states from one place up to another have these values
abbrev pub StatesSoFar : List Word → Text → ℕ → List Entries → ℕ → Type 0
StatesSoFar vars x from all at = (ss : List Stretch) × (each_from x from ≡ ss ++ each_from x at) × SpellStates vars ss all

abbrev pub StatesAnswer : List Word → Text → ℕ → Result (Vec Entries Global) Halt → Type 0
StatesAnswer vars x from (Ok all) = SpellStates vars (each_from x from) all.items
StatesAnswer vars x from (Err halt.Memory) = Unit {0}
StatesAnswer vars x from (Err (halt.At n)) = StatesOffend vars (each_from x from) n × (n ≤ length x)
