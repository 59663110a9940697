-- A file cut into its lines, or into the states of a trace.
use Rattle.std.specs.Prelude.{ℕ, suc, nat_eq, Bool, false, List, [], ◌∷◌, ◌++◌, length, codes, if◌then◌else◌}
use Rattle.std.specs.List.{starts_with}
use Rattle.step_runner.specs.Fronts.{Text}

-- a part of a file, and where it begins
pub record Stretch : Type 0 where
  pub from : ℕ
  pub text : Text

-- ---- lines

-- a byte in front of lines; true: it ends its line
abbrev pub with_byte : Bool → ℕ → ℕ → List Stretch → List Stretch
with_byte false at b (l ∷ ls) = record { from = at; text = b ∷ l.text } ∷ ls
with_byte _ at b ls = record { from = at; text = b ∷ [] } ∷ ls

-- each line with its end
abbrev pub lines_from : ℕ → Text → List Stretch
lines_from at [] = []
lines_from at (b ∷ bs) = with_byte (nat_eq b 10) at b (lines_from (suc at) bs)

abbrev pub lines_of : Text → List Stretch
lines_of x = lines_from 0 x

-- ---- states

-- what is before the first state, and each state without the line that begins it
pub record States : Type 0 where
  pub front : Stretch
  pub each : List Stretch

-- whatever is in the rest of the line, and wherever it stands
abbrev pub begins_state : Text → Bool
begins_state w = starts_with nat_eq w (codes "State ")

abbrev pub with_line : Stretch → States → States
with_line l s =
    if begins_state l.text then record { front = record { from = l.from; text = [] }; each = s.front ∷ s.each }
    else record { front = record { from = l.from; text = l.text ++ s.front.text }; each = s.each }

-- of the lines of a text that ends there
abbrev pub states_in : ℕ → List Stretch → States
states_in end [] = record { front = record { from = end; text = [] }; each = [] }
states_in end (l ∷ ls) = with_line l (states_in end ls)

abbrev pub states_of : Text → States
states_of x = states_in (length x) (lines_of x)
