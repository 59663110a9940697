-- Scripts: a line `init` with the choices of the start, and then a line `step v : choices` for each step, without v in a uniprocess algorithm.
use Rattle.std.specs.Prelude.{◌≡◌, ◌⊎◌, ◌+◌, ℕ, Bool, true, false, not, nat_eq, List, [], ◌∷◌, length, codes, Option, Some, None, option_and_then, filter}
use Rattle.tla_token.specs.declared.rule.Refusal.{Refusal}
use Rattle.tla_value.specs.Value.{Value}
use Rattle.tla_value.specs.ValueSeen.{SpellsFrom}
use Rattle.pcal_tree.specs.Script.{Turn}
use Rattle.step_runner.specs.Fronts.{Text, bad_line, next_at, past, choices_from}
use Rattle.step_runner.specs.Stretches.{Stretch, lines_of}

pub record Script : Type 0 where
  pub choices : List ℕ  -- of the start
  pub turns : List Turn

-- ---- lines

-- a line of blanks and comments alone is passed over
abbrev pub is_told : Stretch → Bool
is_told l = not (nat_eq (next_at l.text 0) (length l.text))

abbrev pub told_lines : Text → List Stretch
told_lines x = filter is_told (lines_of x)

abbrev pub start_choices : Text → Option (List ℕ)
start_choices l = option_and_then (choices_from l) (past (codes "init") l (next_at l 0))

-- whose step it is, between two places; true where there are identifiers
abbrev pub SpellsWho : Bool → Text → ℕ → ℕ → Option Value → Type 0
SpellsWho true l from to (Some v) = SpellsFrom l (next_at l from) to v
SpellsWho true l from to None = ⊥
SpellsWho false l from to who = (from ≡ to) × (who ≡ None)

abbrev pub step_choices : Text → ℕ → Option (List ℕ)
step_choices l at = option_and_then (choices_from l) (past (codes ":") l (next_at l at))

abbrev pub SpellsTurn : Bool → Text → Turn → Type 0
SpellsTurn multi l n =
    (from : ℕ) × (to : ℕ) × (past (codes "step") l (next_at l 0) ≡ Some from) × SpellsWho multi l from to n.who × (step_choices l to ≡ Some n.choices)

abbrev pub SpellTurns : Bool → List Stretch → List Turn → Type 0
SpellTurns multi [] [] = Unit {0}
SpellTurns multi (l ∷ ls) (n ∷ ns) = SpellsTurn multi l.text n × SpellTurns multi ls ns
SpellTurns multi _ _ = ⊥

-- ---- a whole script

abbrev pub SpellsLines : Bool → List Stretch → Script → Type 0
SpellsLines multi [] s = ⊥
SpellsLines multi (l ∷ ls) s = (start_choices l.text ≡ Some s.choices) × SpellTurns multi ls s.turns

abbrev pub SpellsScript : Bool → Text → Script → Type 0
SpellsScript multi x s = SpellsLines multi (told_lines x) s

-- the first byte of a line that isn't passed over
abbrev pub line_begins : Stretch → ℕ
line_begins l = l.from + next_at l.text 0

-- the first line that is no step
abbrev pub TurnOffends : Bool → List Stretch → ℕ → Type 0
TurnOffends multi [] at = ⊥
TurnOffends multi (l ∷ ls) at =
    ((at ≡ line_begins l) × ((n : Turn) → SpellsTurn multi l.text n → ⊥)) ⊎ (((n : Turn) × SpellsTurn multi l.text n) × TurnOffends multi ls at)

abbrev pub StartOffends : Bool → Option (List ℕ) → Stretch → List Stretch → ℕ → Type 0
StartOffends multi None l ls at = at ≡ line_begins l
StartOffends multi (Some ns) l ls at = TurnOffends multi ls at

-- a script without a line offends at its end
abbrev pub LinesOffend : Bool → Text → List Stretch → ℕ → Type 0
LinesOffend multi x [] at = at ≡ length x
LinesOffend multi x (l ∷ ls) at = StartOffends multi (start_choices l.text) l ls at

abbrev pub ScriptOffends : Bool → Text → Refusal → Type 0
ScriptOffends multi x r = (at : ℕ) × LinesOffend multi x (told_lines x) at × (r ≡ bad_line x at)
