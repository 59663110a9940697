-- Steps: a process goes from the label that its pc names to a next one ("A PlusCal User's Manual", section 3.7, labels).
use Rattle.std.specs.Prelude.{◌≡◌, List, ◌∷◌, codes, Some, Ok}
use Rattle.tla_tree.specs.Tree.{Word}
use Rattle.tla_value.specs.Value.{Value, text, Outcome}
use Rattle.pcal_tree.specs.Algorithm.{Routine, procedure_routines}
use Rattle.pcal_tree.specs.Scope.{State}
use Rattle.pcal_tree.specs.Run.{Course, Has, run, exit_to}
use Rattle.pcal_tree.specs.StepStart.{Begin, at_label}
use Rattle.pcal_tree.specs.Program.{Program, Actor, index, read_at, routine_scope}
use Rattle.pcal_tree.specs.Variables.{pc, vars, Agree}
use Rattle.pcal_tree.specs.Calls.{label_value, rules_of}
use Rattle.pcal_tree.specs.Processes.{OneOf, IsActor}

-- the value of a process's pc
abbrev pub pc_of : Actor → State → Outcome Value
pc_of v s = read_at v.own.name.place (index v.self) (s pc)

-- a label of a routine, and what a step from it begins with
pub record Stand : Type 0 where
  pub routine : Routine
  pub label : Word
  pub begins : Begin

-- what a process may run
abbrev pub routines_of : Program → Actor → List Routine
routines_of P v = v.own ∷ procedure_routines P.algorithm

-- process v is at a label of its own body or of a procedure
abbrev pub StandsAt : Program → State → Actor → Stand → Type 0
StandsAt P s v d =
    OneOf d.routine (routines_of P v) × (at_label d.routine d.label ≡ Some d.begins) × (pc_of v s ≡ Ok (label_value P d.routine d.label))

-- the courses of a step from there
abbrev pub course_of : Program → Actor → Stand → State → Course
course_of P v d s =
    run (rules_of P v d.routine) d.label d.begins.items (routine_scope P v d.routine) (exit_to (rules_of P v d.routine) d.begins.exit) s

-- process v steps from there to t
abbrev pub StepFrom : Program → Actor → Stand → State → State → Type 0
StepFrom P v d s t = StandsAt P s v d × ((u : State) × Has (course_of P v d s) (Ok u) × Agree (vars P) u t)

-- some process steps
abbrev pub Step : Program → State → State → Type 0
Step P s t = (v : Actor) × (d : Stand) × IsActor P v × StepFrom P v d s t

-- all are done, and nothing changes
abbrev pub Stutters : Program → State → State → Type 0
Stutters P s t = ((v : Actor) → IsActor P v → pc_of v s ≡ Ok (text (codes "Done"))) × Agree (vars P) s t
