-- The courses of a step by the written names, and the trouble that is met first by them ("A PlusCal User's Manual", section 4, on names in the translation).
use Rattle.std.specs.Prelude.{ℕ, List, [], ◌∷◌, Option, Some, None, Ok, Err}
use Rattle.std.specs.Option.{option_or}
use Rattle.tla_value.specs.Value.{Value, Trouble, Outcome}
use Rattle.pcal_tree.specs.Scope.{State}
use Rattle.pcal_tree.specs.Run.{Course, ends, stops, run, exit_to}
use Rattle.pcal_tree.specs.Choices.{first_trouble}
use Rattle.pcal_tree.specs.Program.{Program, Actor}
use Rattle.pcal_tree.specs.Step.{pc_of, Stand, routines_of}
use Rattle.pcal_tree.specs.FirstTrouble.{stand_named}
use Rattle.action_builder.specs.laws.WrittenScope.{written_scope}
use Rattle.step_walks.specs.WrittenCalls.{written_rules}
use Rattle.step_walks.specs.WrittenFlows.{own_statements}
use Rattle.written_runs.specs.Ways.{Ways}
use Rattle.written_runs.specs.Searches.{found}

-- ---- by courses

-- of a step from a label
abbrev pub written_course : Program → Actor → Stand → State → Course
written_course P v d s =
    run (written_rules P [] v d.routine) d.label (own_statements P d.routine d.begins.items) (written_scope P [] v) (exit_to (written_rules P [] v d.routine) d.begins.exit) s

-- where a process is at no label it stays
abbrev pub written_from : Program → Actor → State → Option Stand → Course
written_from P v s None = ends s
written_from P v s (Some d) = written_course P v d s

abbrev pub written_at : Program → Actor → State → Outcome Value → Course
written_at P v s (Err k) = stops k
written_at P v s (Ok w) = written_from P v s (stand_named P w (routines_of P v))

-- of a process's step
abbrev pub written_step : Program → Actor → State → Course
written_step P v s = written_at P v s (pc_of v s)

-- of each process in turn
abbrev pub written_trouble_of_all : Program → State → List Actor → Option Trouble
written_trouble_of_all P s [] = None
written_trouble_of_all P s (v ∷ vs) = option_or (first_trouble (written_step P v s)) (written_trouble_of_all P s vs)

-- ---- by a search over what lists of choices come to, by some ways of taking a step, to so many choices less one

abbrev pub searched_from : Ways → Program → Actor → State → ℕ → Option Stand → Option Trouble
searched_from W P v s depth None = None
searched_from W P v s depth (Some d) = found depth (W.step P v d s)

abbrev pub searched_at : Ways → Program → Actor → State → ℕ → Outcome Value → Option Trouble
searched_at W P v s depth (Err k) = Some k
searched_at W P v s depth (Ok w) = searched_from W P v s depth (stand_named P w (routines_of P v))

abbrev pub searched_of_all : Ways → Program → State → ℕ → List Actor → Option Trouble
searched_of_all W P s depth [] = None
searched_of_all W P s depth (v ∷ vs) = option_or (searched_at W P v s depth (pc_of v s)) (searched_of_all W P s depth vs)
