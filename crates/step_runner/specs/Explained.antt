-- What comes of explaining a trace: the states that are shown, and why it stops before its end.
use Rattle.std.specs.Prelude.{ℕ, suc, List, [], ◌∷◌, Bool, true, false, Option, Some, None, unwrap_or, Ok, Err}
use Rattle.tla_tree.specs.Tree.{Word}
use Rattle.tla_value.specs.Value.{truth, Trouble, over, Outcome}
use Rattle.tla_value.specs.States.{Entries, value_of}
use Rattle.tla_value.specs.Definitions.{Valuation}
use Rattle.pcal_tree.specs.Scope.{State}
use Rattle.pcal_tree.specs.Program.{Program, Actor}
use Rattle.pcal_tree.specs.Processes.{actors}
use Rattle.pcal_tree.specs.InitialStates.{allowed}
use Rattle.pcal_tree.specs.FirstTrouble.{trouble_of_all}
use Rattle.module_tree.specs.Module.{Module}
use Rattle.module_tree.specs.ActionTruth.{Verdict}
use Rattle.module_tree.specs.ModuleTruth.{next_holds, init_holds}
use Rattle.pcal_tree.specs.Variables.{on_variables}
use Rattle.step_runner.specs.Fronts.{Text}
use Rattle.step_runner.specs.StopLines.{state_line, trouble_line}

-- the state that these values are; a name without one isn't looked at
abbrev pub state_of : Entries → State
state_of es x = unwrap_or (value_of es x) (truth false)

-- why it stops: state 0 isn't initial, or state n is no step; or trouble
pub data Halt : Type 0 where
  untrue : ℕ → Halt
  troubled : Trouble → Halt

pub record Explained : Type 0 where
  pub states : List State
  pub halt : Option Halt  -- none, where all states are shown

abbrev pub trouble_in : Outcome Bool → Option Trouble
trouble_in (Ok b) = None
trouble_in (Err k) = Some k

-- what is told where a formula is neither true nor false: the trouble that the algorithm meets; where it meets none, the formula alone passes a limit
abbrev pub told : Program → Option Trouble → Trouble
told P k = unwrap_or k (over P.algorithm.name.place)

-- state n is shown where the formula is true, and the rest after it
abbrev pub after_verdict : ℕ → Verdict → Trouble → State → Explained → Explained
after_verdict n (Ok true) k s rest = record { states = s ∷ rest.states; halt = rest.halt }
after_verdict n (Ok false) k s rest = record { states = []; halt = Some (untrue n) }
after_verdict n (Err j) k s rest = record { states = []; halt = Some (troubled k) }

abbrev pub pairs_explained : Program → Module → Valuation → List Actor → ℕ → State → List State → Explained
pairs_explained P m constants vs n s [] = record { states = []; halt = None }
pairs_explained P m constants vs n s (t ∷ ts) =
    after_verdict n (next_holds P.check m constants (on_variables P s) (on_variables P t)) (told P (trouble_of_all P s vs)) t
    (pairs_explained P m constants vs (suc n) t ts)

abbrev pub states_explained : Program → Module → Valuation → List Actor → List State → Explained
states_explained P m constants vs [] = record { states = []; halt = None }
states_explained P m constants vs (s ∷ ts) =
    after_verdict 0 (init_holds P.check m constants (on_variables P s)) (told P (trouble_in (allowed P s))) s (pairs_explained P m constants vs 1 s ts)

-- the identifiers are looked at before the states
abbrev pub explained_by : Program → Module → Valuation → List State → Outcome (List Actor) → Explained
explained_by P m constants ss (Err k) = record { states = []; halt = Some (troubled k) }
explained_by P m constants ss (Ok vs) = states_explained P m constants vs ss

-- P has the limits of a run
abbrev pub explained : Program → Module → Valuation → List State → Explained
explained P m constants ss = explained_by P m constants ss (actors P)

abbrev pub halt_line : Word → Halt → Text
halt_line file (untrue n) = state_line n
halt_line file (troubled k) = trouble_line file k
