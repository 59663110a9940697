-- What a step and a start of an accepted algorithm come to by a list of choices, under any limits: the flow of its statements, and of its declarations, with the written
-- names, whatever its state holds.
use Rattle.std.specs.Prelude.{◌≡◌, ℕ, List, []}
use Rattle.std.specs.List.{AllByRecursion}
use Rattle.tla_value.specs.Stops.{Check, plain}
use Rattle.tla_value.specs.Definitions.{Valuation}
use Rattle.tla_value.specs.Outside.{Outside}
use Rattle.pcal_tree.specs.Algorithm.{Routine, locals, routines, Algorithm}
use Rattle.pcal_tree.specs.Scope.{State}
use Rattle.pcal_tree.specs.Program.{Actor}
use Rattle.pcal_tree.specs.Programs.{program_in}
use Rattle.pcal_tree.specs.Choices.{walk, went}
use Rattle.pcal_tree.specs.InitialChoice.{started}
use Rattle.pcal_tree.specs.Processes.{OneOf, IsActor}
use Rattle.pcal_tree.specs.Step.{Stand, course_of}
use Rattle.translation.specs.laws.AcceptedAlgorithm.{IsAcceptedInFile}
use Rattle.translation.specs.laws.AcceptedLaws.{Stance}
use Rattle.step_walks.specs.FirstValues.{as_declared, as_written}
use Rattle.step_walks.specs.Flows.{finish}
use Rattle.step_walks.specs.StartFlows.{written_start}
use Rattle.step_walks.specs.WrittenFlows.{written_flow, written_flow_by}
use Rattle.step_walks.specs.laws.FirstValues.{Alike}

-- from each label at which a process may be
abbrev pub StepsFlow : Check → Type 0
StepsFlow c = (o : Outside) (g : Algorithm) → IsAcceptedInFile o g → (values : Valuation) (v : Actor) (d : Stand) → Stance (program_in plain o g values) v d
    → (s : State) (ns : List ℕ) → walk (course_of (program_in c o g values) v d s) ns ≡ written_flow (program_in c o g values) [] v d s ns

-- and where the first values of a called procedure's variables are prepared too; the process is one of the algorithm under the limits b
abbrev pub WrittenStepsFlow : Check → Check → Type 0
WrittenStepsFlow b c = (o : Outside) (g : Algorithm) → IsAcceptedInFile o g → (values : Valuation) (v : Actor) (d : Stand) → Stance (program_in b o g values) v d
    → (s : State) (ns : List ℕ) → walk (course_of (program_in c o g values) v d s) ns ≡ written_flow_by (program_in c o g values) [] v d s ns

-- a start
abbrev pub WrittenStartsFlow : Check → Type 0
WrittenStartsFlow c = (o : Outside) (g : Algorithm) → IsAcceptedInFile o g → (values : Valuation) (ns : List ℕ)
    → walk (started (program_in c o g values)) ns ≡ finish (written_start (program_in c o g values) [] ns) went

-- the first values of a routine's parameters and variables, for a process of the algorithm under the limits b
abbrev pub FirstValuesWritten : Check → Check → Type 0
FirstValuesWritten b c = (o : Outside) (g : Algorithm) → IsAcceptedInFile o g → (values : Valuation) (v : Actor) (u : Routine) → IsActor (program_in b o g values) v → OneOf u (routines g)
    → (let P = program_in c o g values in AllByRecursion (λ d. Alike ((as_written P []).inside v u) ((as_declared P).inside v u) d.start) (locals u))
