-- What comes of following a script: the states that it leads to, and why it stops before its end.
use Rattle.std.specs.Prelude.{ℕ, suc, List, [], ◌∷◌, Option, Some, None}
use Rattle.tla_tree.specs.Tree.{Word}
use Rattle.pcal_tree.specs.Scope.{State}
use Rattle.pcal_tree.specs.Program.{Program}
use Rattle.pcal_tree.specs.StepAnswers.{Reply, reached, held_at, no_label, needs_choice, too_many_choices, stopped_by, stepped, start_by}
use Rattle.pcal_tree.specs.Script.{Turn}
use Rattle.step_runner.specs.Script.{Script}

-- the number of the step that can't be taken, and its reply; step 0 is the start
pub record Stop : Type 0 where
  pub step : ℕ
  pub reply : Reply State

pub record Followed : Type 0 where
  pub states : List State
  pub stop : Option Stop  -- none, where the whole script was followed

-- without the label
abbrev pub landed : Reply (State × Word) → Reply State
landed (reached (t, l)) = reached t
landed (held_at at) = held_at at
landed no_label = no_label
landed (needs_choice n at) = needs_choice n at
landed (too_many_choices at) = too_many_choices at
landed (stopped_by k) = stopped_by k

-- step k leads to a state, from which the rest is followed, or can't be taken
abbrev pub after_reply : ℕ → (State → Followed) → Reply State → Followed
after_reply k rest (reached t) = record { states = t ∷ (rest t).states; stop = (rest t).stop }
after_reply k rest r = record { states = []; stop = Some (record { step = k; reply = r }) }

abbrev pub turns_followed : Program → List Turn → ℕ → State → Followed
turns_followed P [] k s = record { states = []; stop = None }
turns_followed P (n ∷ ns) k s = after_reply k (turns_followed P ns (suc k)) (landed (stepped P s n.who n.choices))

abbrev pub followed : Program → Script → Followed
followed P c = after_reply 0 (turns_followed P c.turns 1) (start_by P c.choices)
