-- What comes of one step, and of a start, by a list of choices.
use Rattle.std.specs.Prelude.{ℕ, List, [], ◌∷◌, Bool, true, false, cond, bytes_eq, Option, Some, None, Ok, Err}
use Rattle.tla_token.specs.declared.place.Place.{Place}
use Rattle.tla_tree.specs.Tree.{Word}
use Rattle.tla_value.specs.Value.{Value, Trouble, Outcome}
use Rattle.tla_value.specs.Order.{same}
use Rattle.pcal_tree.specs.Algorithm.{nowhere, Routine}
use Rattle.pcal_tree.specs.Scope.{State}
use Rattle.pcal_tree.specs.Choices.{Walk, went, failed, blocked, wanting, walk}
use Rattle.pcal_tree.specs.OffencesLabels.{Label, labels}
use Rattle.pcal_tree.specs.Program.{Program, Actor}
use Rattle.pcal_tree.specs.Calls.{label_name}
use Rattle.pcal_tree.specs.Processes.{actors}
use Rattle.pcal_tree.specs.Step.{pc_of, Stand, routines_of, course_of}
use Rattle.pcal_tree.specs.FirstTrouble.{stand_named}
use Rattle.pcal_tree.specs.InitialChoice.{started}

pub data Reply (X : Type 0) : Type 0 where
  reached : X → Reply X
  held_at : Place → Reply X  -- at a false `await`, or an empty set
  no_label : Reply X
  needs_choice : ℕ → Place → Reply X  -- of so many; it is missing, or out of 1 to these
  too_many_choices : Place → Reply X
  stopped_by : Trouble → Reply X

-- whatever is met first; choices that are left over count after the end, at a place of their own
abbrev pub replied : {X : Type 0} → (State → X) → Place → Walk → Reply X
replied f at (went t []) = reached (f t)
replied f at (went t (n ∷ ns)) = too_many_choices at
replied f at (failed k) = stopped_by k
replied f at (blocked p) = held_at p
replied f at (wanting n p) = needs_choice n p

-- ---- one step

abbrev pub place_among : Word → List Label → Place
place_among l [] = nowhere
place_among l (m ∷ ms) = cond (bytes_eq l m.name.word) m.name.place (place_among l ms)

-- where a label of a routine is
abbrev pub label_place : Routine → Word → Place
label_place u l = place_among l (labels false u.body)

-- the state, with the written name of the label that was stepped from
abbrev pub step_from : Program → Actor → State → List ℕ → Option Stand → Reply (State × Word)
step_from P v s choices None = no_label
step_from P v s choices (Some d) =
    replied (λ t. (t, label_name P d.routine d.label)) (label_place d.routine d.label) (walk (course_of P v d s) choices)

-- the label that a process's pc names; one that can't be read is the trouble
abbrev pub step_at : Program → Actor → State → List ℕ → Outcome Value → Reply (State × Word)
step_at P v s choices (Err k) = stopped_by k
step_at P v s choices (Ok w) = step_from P v s choices (stand_named P w (routines_of P v))

abbrev pub is_self : Option Value → Option Value → Bool
is_self (Some v) (Some w) = same v w
is_self None None = true
is_self _ _ = false

abbrev pub with_self : Option Value → List Actor → Option Actor
with_self who [] = None
with_self who (v ∷ vs) = cond (is_self who v.self) (Some v) (with_self who vs)

-- no process has the identifier
abbrev pub step_of : Program → State → List ℕ → Option Actor → Reply (State × Word)
step_of P s choices None = no_label
step_of P s choices (Some v) = step_at P v s choices (pc_of v s)

abbrev pub step_in : Program → State → Option Value → List ℕ → Outcome (List Actor) → Reply (State × Word)
step_in P s who choices (Err k) = stopped_by k
step_in P s who choices (Ok vs) = step_of P s choices (with_self who vs)

-- one step of the process with the identifier, or of the one body; choices that are left over count at its label
abbrev pub stepped : Program → State → Option Value → List ℕ → Reply (State × Word)
stepped P s who choices = step_in P s who choices (actors P)

-- ---- the start

-- an initial state; choices that are left over count at the algorithm's name
abbrev pub start_by : Program → List ℕ → Reply State
start_by P choices = replied (λ s. s) P.algorithm.name.place (walk (started P) choices)
