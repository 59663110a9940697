-- What comes of a step, of a start and of following a script, by some ways of taking a step and of starting: by the meaning, or statement by statement and
-- declaration by declaration, with the written names.
use Rattle.std.specs.Prelude.{ℕ, suc, List, [], ◌∷◌, Option, Some, None, Ok, Err}
use Rattle.tla_tree.specs.Tree.{Word}
use Rattle.tla_value.specs.Value.{Value, Outcome}
use Rattle.pcal_tree.specs.Scope.{State}
use Rattle.pcal_tree.specs.Choices.{Walk, went, walk}
use Rattle.pcal_tree.specs.InitialChoice.{started}
use Rattle.pcal_tree.specs.Program.{Program, Actor}
use Rattle.pcal_tree.specs.Calls.{label_name}
use Rattle.pcal_tree.specs.Processes.{actors}
use Rattle.pcal_tree.specs.Step.{pc_of, Stand, routines_of, course_of}
use Rattle.pcal_tree.specs.FirstTrouble.{stand_named}
use Rattle.pcal_tree.specs.StepAnswers.{Reply, no_label, stopped_by, replied, label_place, with_self}
use Rattle.pcal_tree.specs.Script.{Turn}
use Rattle.step_walks.specs.Flows.{finish}
use Rattle.step_walks.specs.StartFlows.{written_start}
use Rattle.step_walks.specs.WrittenFlows.{written_flow_by}
use Rattle.step_runner.specs.Script.{Script}
use Rattle.step_runner.specs.Followed.{Followed, landed, after_reply}

-- what a process's step from a label comes to by a list of choices, and a start
pub record Ways : Type 0 where
  pub step : Program → Actor → Stand → State → List ℕ → Walk
  pub start : Program → List ℕ → Walk

-- along the courses
abbrev pub by_meaning : Ways
by_meaning = record {
  step = λ P v d s choices. walk (course_of P v d s) choices;
  start = λ P choices. walk (started P) choices;
}

-- each variable of the module stands for itself, and a process's own ones are at its identifier
abbrev pub by_written_names : Ways
by_written_names = record {
  step = λ P v d s choices. written_flow_by P [] v d s choices;
  start = λ P choices. finish (written_start P [] choices) went;
}

-- ---- one step

-- from a label, with its written name
abbrev pub step_from_by : Ways → Program → Actor → State → List ℕ → Option Stand → Reply (State × Word)
step_from_by W P v s choices None = no_label
step_from_by W P v s choices (Some d) =
    replied (λ t. (t, label_name P d.routine d.label)) (label_place d.routine d.label) (W.step P v d s choices)

-- where the process's pc has this value, or can't be read
abbrev pub step_at_by : Ways → Program → Actor → State → List ℕ → Outcome Value → Reply (State × Word)
step_at_by W P v s choices (Err k) = stopped_by k
step_at_by W P v s choices (Ok w) = step_from_by W P v s choices (stand_named P w (routines_of P v))

-- of the process that has the identifier, if one has it
abbrev pub step_of_by : Ways → Program → State → List ℕ → Option Actor → Reply (State × Word)
step_of_by W P s choices None = no_label
step_of_by W P s choices (Some v) = step_at_by W P v s choices (pc_of v s)

-- of one of these processes
abbrev pub step_in_by : Ways → Program → State → Option Value → List ℕ → Outcome (List Actor) → Reply (State × Word)
step_in_by W P s who choices (Err k) = stopped_by k
step_in_by W P s who choices (Ok vs) = step_of_by W P s choices (with_self who vs)

abbrev pub stepped_by : Ways → Program → State → Option Value → List ℕ → Reply (State × Word)
stepped_by W P s who choices = step_in_by W P s who choices (actors P)

-- ---- the start

abbrev pub begun_by : Ways → Program → List ℕ → Reply State
begun_by W P choices = replied (λ s. s) P.algorithm.name.place (W.start P choices)

-- ---- a script

-- from step k on
abbrev pub turns_followed_by : Ways → Program → List Turn → ℕ → State → Followed
turns_followed_by W P [] k s = record { states = []; stop = None }
turns_followed_by W P (n ∷ ns) k s = after_reply k (turns_followed_by W P ns (suc k)) (landed (stepped_by W P s n.who n.choices))

abbrev pub followed_by : Ways → Program → Script → Followed
followed_by W P c = after_reply 0 (turns_followed_by W P c.turns 1) (begun_by W P c.choices)

-- the steps of these processes, which are the same at each step
abbrev pub turns_followed_in : Ways → Program → List Actor → List Turn → ℕ → State → Followed
turns_followed_in W P vs [] k s = record { states = []; stop = None }
turns_followed_in W P vs (n ∷ ns) k s =
    after_reply k (turns_followed_in W P vs ns (suc k)) (landed (step_of_by W P s n.choices (with_self n.who vs)))
