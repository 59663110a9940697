-- Traces: a line that begins `State ` begins a state, and then an item `/\ name = value` for each variable.
use Rattle.std.specs.Prelude.{◌≡◌, ◌⊎◌, ◌+◌, ◌<◌, ℕ, true, List, [], ◌∷◌, length}
use Rattle.tla_token.specs.declared.rule.Refusal.{Refusal}
use Rattle.tla_tree.specs.Tree.{Word}
use Rattle.tla_value.specs.States.{Entries}
use Rattle.step_runner.specs.Fronts.{Text, bad_line, next_at}
use Rattle.step_runner.specs.Stretches.{Stretch, states_of}
use Rattle.step_runner.specs.Items.{SpellsValues, OffendsAt}

-- ---- a whole trace

abbrev pub SpellStates : List Word → List Stretch → List Entries → Type 0
SpellStates vars [] [] = Unit {0}
SpellStates vars (s ∷ ss) (es ∷ more) = SpellsValues true vars s.text es × SpellStates vars ss more
SpellStates vars _ _ = ⊥

abbrev pub AreSome : {X : Type 0} → List X → Type 0
AreSome [] = ⊥
AreSome (x ∷ xs) = Unit {0}

abbrev pub SpellsTrace : List Word → Text → List Entries → Type 0
SpellsTrace vars x states =
    (next_at (states_of x).front.text 0 ≡ length (states_of x).front.text) × AreSome states × SpellStates vars (states_of x).each states

-- ---- the first offence

abbrev pub StatesOffend : List Word → List Stretch → ℕ → Type 0
StatesOffend vars [] at = ⊥
StatesOffend vars (s ∷ ss) at =
    ((k : ℕ) × OffendsAt true vars s.text k × (at ≡ s.from + k)) ⊎ (((es : Entries) × SpellsValues true vars s.text es) × StatesOffend vars ss at)

-- a trace without states offends at its end
abbrev pub EachOffend : List Word → Text → List Stretch → ℕ → Type 0
EachOffend vars x [] at = at ≡ length x
EachOffend vars x (s ∷ ss) at = StatesOffend vars (s ∷ ss) at

-- before the first state there are blanks and comments alone
abbrev pub FrontOffends : Text → ℕ → Type 0
FrontOffends front at = (at ≡ next_at front 0) × (at < length front)

abbrev pub TraceOffends : List Word → Text → Refusal → Type 0
TraceOffends vars x r =
    (at : ℕ) × (FrontOffends (states_of x).front.text at
    ⊎ ((next_at (states_of x).front.text 0 ≡ length (states_of x).front.text) × EachOffend vars x (states_of x).each at))
    × (r ≡ bad_line x at)
