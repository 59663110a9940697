-- The text that is written for states, and for a step of a script that can't be taken.
use Rattle.std.specs.Prelude.{ℕ, suc, List, [], ◌∷◌, ◌++◌, Bool, false, codes, Option, Some, None, Ok, Err, find}
use Rattle.std.specs.List.{flat_map}
use Rattle.std.specs.Fmt.{decimal}
use Rattle.tla_token.specs.declared.place.Place.{Place}
use Rattle.tla_tree.specs.Tree.{Word}
use Rattle.tla_value.specs.Value.{Value, Outcome}
use Rattle.tla_value.specs.ValueText.{value_text}
use Rattle.tla_value.specs.Definitions.{Valuation}
use Rattle.pcal_tree.specs.Scope.{State}
use Rattle.pcal_tree.specs.Program.{Program, Actor}
use Rattle.pcal_tree.specs.Variables.{vars, on_variables}
use Rattle.pcal_tree.specs.Calls.{label_name}
use Rattle.pcal_tree.specs.Processes.{actors}
use Rattle.pcal_tree.specs.Step.{pc_of, Stand, routines_of}
use Rattle.pcal_tree.specs.FirstTrouble.{stand_named}
use Rattle.pcal_tree.specs.StepAnswers.{Reply, held_at, no_label, needs_choice, too_many_choices, label_place, with_self}
use Rattle.pcal_tree.specs.Script.{Turn}
use Rattle.source_map.specs.Lines.{place_text}
use Rattle.module_tree.specs.Module.{Module}
use Rattle.module_tree.specs.ActionTruth.{Verdict}
use Rattle.module_tree.specs.ProcessPart.{mine_holds}
use Rattle.step_runner.specs.Fronts.{Text}

-- ---- what came before a state

pub data Before : Type 0 where
  initial : Before
  stepped : Word → Option Value → Place → Before  -- from a label, by its written name, of a process; where the label is
  terminating : Before

-- where a process stands
abbrev pub from_stand : Program → Actor → Option Stand → Before
from_stand P v None = terminating
from_stand P v (Some d) = stepped (label_name P d.routine d.label) v.self (label_place d.routine d.label)

abbrev pub from_pc : Program → Actor → Outcome Value → Before
from_pc P v (Err k) = terminating
from_pc P v (Ok w) = from_stand P v (stand_named P w (routines_of P v))

-- a step from a state by a process, or by none
abbrev pub step_before : Program → State → Option Actor → Before
step_before P s None = terminating
step_before P s (Some v) = from_pc P v (pc_of v s)

abbrev pub known : Outcome (List Actor) → List Actor
known (Ok vs) = vs
known (Err k) = []

-- by the process with the identifier
abbrev pub turn_before : Program → State → Option Value → Before
turn_before P s who = step_before P s (with_self who (known (actors P)))

-- ---- the text of a state

abbrev pub who_text : Option Value → Text
who_text None = []
who_text (Some v) = codes " of " ++ value_text v

abbrev pub before_text : Before → Text
before_text initial = codes "initial"
before_text (stepped l who at) = l ++ (who_text who ++ (codes " at " ++ place_text at))
before_text terminating = codes "Terminating"

abbrev pub variable_text : State → Word → Text
variable_text s x = codes "/\\ " ++ (x ++ (codes " = " ++ (value_text (s x) ++ codes "\n")))

-- its number, what came before it, and a line for each variable
abbrev pub state_text : Program → ℕ → Before → State → Text
state_text P n b s = codes "State " ++ (decimal n ++ (codes ": " ++ (before_text b ++ (codes "\n" ++ flat_map (variable_text s) (vars P)))))

-- ---- runs

-- states after s, each by the step of one turn
abbrev pub turns_text : Program → ℕ → List Turn → State → List State → Text
turns_text P k (n ∷ ns) s (t ∷ ts) = state_text P k (turn_before P s n.who) t ++ turns_text P (suc k) ns t ts
turns_text P k _ s _ = []

abbrev pub run_text : Program → List Turn → List State → Text
run_text P ns [] = []
run_text P ns (s ∷ ts) = state_text P 0 initial s ++ turns_text P 1 ns s ts

-- ---- traces

abbrev pub is_so : Verdict → Bool
is_so (Ok b) = b
is_so (Err k) = false

-- the first process, in canonical order, whose part of Next is true
abbrev pub first_holding : (Option Value → Verdict) → List Actor → Option Actor
first_holding holds vs = find (λ v. is_so (holds v.self)) vs

abbrev pub pair_before : Program → Module → Valuation → State → State → Before
pair_before P m constants s t =
    step_before P s (first_holding (mine_holds P.check m constants (on_variables P s) (on_variables P t)) (known (actors P)))

abbrev pub pairs_text : Program → Module → Valuation → ℕ → State → List State → Text
pairs_text P m constants k s [] = []
pairs_text P m constants k s (t ∷ ts) = state_text P k (pair_before P m constants s t) t ++ pairs_text P m constants (suc k) t ts

abbrev pub trace_text : Program → Module → Valuation → List State → Text
trace_text P m constants [] = []
trace_text P m constants (s ∷ ts) = state_text P 0 initial s ++ pairs_text P m constants 1 s ts

-- ---- why a step can't be taken

abbrev pub why_text : {X : Type 0} → Reply X → Option Text
why_text (held_at p) = Some (codes "held at " ++ place_text p)
why_text no_label = Some (codes "no label")
why_text (needs_choice n p) = Some (codes "choice of " ++ (decimal n ++ (codes " at " ++ place_text p)))
why_text (too_many_choices p) = Some (codes "too many choices at " ++ place_text p)
why_text _ = None
