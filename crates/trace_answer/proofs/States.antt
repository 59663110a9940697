-- The states of a trace have canonical values.
use Rattle.std.proofs.Common.{ℕ, Bool, true, false, cond, List, [], ◌∷◌, map, Some}
use Rattle.std.specs.Prelude.{◌==◌, unwrap_or}
use Rattle.std.specs.Cmp.Lexicographic.{pointwise}
use Rattle.tla_tree.specs.Tree.{Word, Each}
use Rattle.tla_value.specs.Value.{truth}
use Rattle.tla_value.specs.Order.{IsCanonical}
use Rattle.tla_value.specs.States.{Entries, value_of}
use Rattle.tla_value.specs.ValueSeen.{marks_of}
use Rattle.tla_value.proofs.ValueWithin.{spelled_is_canonical}
use Rattle.pcal_tree.specs.Program.{Program}
use Rattle.pcal_tree.specs.Scope.{State}
use Rattle.pcal_tree.specs.Variables.{vars}
use Rattle.promise.specs.ConstantsAndStates.{IsState}
use Rattle.step_runner.specs.Explained.{state_of}
use Rattle.step_runner.specs.Fronts.{Text}
use Rattle.step_runner.specs.Items.{SpellsItems}
use Rattle.step_runner.specs.Stretches.{Stretch}
use Rattle.step_runner.specs.Trace.{SpellStates}

-- ---- the values of one state

abbrev AllCanonical : Entries → Type 0
AllCanonical [] = Unit {0}
AllCanonical (e ∷ es) = IsCanonical e.1 × AllCanonical es

items_canonical : (b : Bool) (x : Text) (at : ℕ) (es : Entries) (end : ℕ) → SpellsItems b x at es end → AllCanonical es
items_canonical b x at [] end h = tt
items_canonical b x at (e ∷ es) end (to, (from, begun, spelled), more) = (spelled_is_canonical (marks_of spelled.pieces) e.1 spelled.spells, items_canonical b x to es end more)

state_canonical : (es : Entries) → AllCanonical es → (x : Word) → IsCanonical (state_of es x)
state_canonical [] h x = tt
state_canonical (e ∷ es) h x = by (pointwise ◌==◌ x e.0) (state_canonical es h.1 x)
  where
    by : (b : Bool) → IsCanonical (state_of es x) → IsCanonical (unwrap_or (cond b (Some e.1) (value_of es x)) (truth false))
    by true k = h.0
    by false k = k

-- ---- all states

abbrev pub AreCanonicalStates : List State → Type 0
AreCanonicalStates [] = Unit {0}
AreCanonicalStates (s ∷ ss) = ((x : Word) → IsCanonical (s x)) × AreCanonicalStates ss

pub spelled_states : (names : List Word) (ls : List Stretch) (ts : List Entries) → SpellStates names ls ts → AreCanonicalStates (map state_of ts)
spelled_states names [] [] h = tt
spelled_states names [] (es ∷ ts) h = absurd h
spelled_states names (l ∷ ls) [] h = tt
spelled_states names (l ∷ ls) (es ∷ ts) h = (state_canonical es (items_canonical true l.text 0 es h.0.0 h.0.1), spelled_states names ls ts h.1)

at_each : (s : State) → ((x : Word) → IsCanonical (s x)) → (xs : List Word) → Each (λ x. IsCanonical (s x)) xs
at_each s h [] = tt
at_each s h (x ∷ xs) = (h x, at_each s h xs)

pub is_state : (P : Program) (s : State) → ((x : Word) → IsCanonical (s x)) → IsState P s
is_state P s h = at_each s h (vars P)
