-- What code finds of the lines of a text, and of the choices on one.
use Rattle.std.specs.Prelude.{◌≡◌, ℕ, ◌+◌, ◌<◌, ◌≤◌, List, [], ◌∷◌, length, drop, Option, Some, None, option_map, filter, Vec}
use Rattle.std.specs.Global.{Global}
use Rattle.tla_token.specs.Tokens.{stretch}
use Rattle.step_runner.specs.Fronts.{Text, next_at, choices_from}
use Rattle.step_runner.specs.Stretches.{Stretch, lines_from}
use Rattle.step_runner.specs.Script.{is_told}
use Rattle.run_files.specs.declared.lines.Line.{Line}

-- the lines from a place on that aren't passed over
abbrev pub told_from : Text → ℕ → List Stretch
told_from x at = filter is_told (lines_from at (drop at x))

-- a line goes from a place to another
abbrev pub IsLine : Text → ℕ → ℕ → Type 0
IsLine x from to = (from < to) × (to ≤ length x) × (lines_from from (drop from x) ≡ record { from = from; text = stretch x from to } ∷ lines_from to (drop to x))

abbrev pub line_of : Text → Line → Stretch
line_of x l = record { from = l.from; text = stretch x l.from l.to }

-- the first line that isn't passed over
pub record Told (x : Text) (at : ℕ) (l : Line) : Type 0 where
  pub after : at ≤ l.from
  pub some : l.from < l.to
  pub inside : l.to ≤ length x
  pub begin : l.begin ≡ next_at (stretch x l.from l.to) 0
  pub short : l.from + l.begin < l.to
  pub first : told_from x at ≡ line_of x l ∷ told_from x l.to

abbrev pub ToldAnswer : Text → ℕ → Option Line → Type 0
ToldAnswer x at None = told_from x at ≡ []
ToldAnswer x at (Some l) = Told x at l

-- the choice at a place, and where it ends
abbrev pub ChoiceAnswer : Text → ℕ → Option (ℕ × ℕ) → Type 0
ChoiceAnswer x at None = choices_from x at ≡ None
ChoiceAnswer x at (Some c) = (at < c.1) × (c.1 ≤ length x) × (choices_from x at ≡ option_map (λ ns. c.0 ∷ ns) (choices_from x c.1))

abbrev pub listed : Option (Vec ℕ Global) → Option (List ℕ)
listed o = option_map (λ v. v.items) o
