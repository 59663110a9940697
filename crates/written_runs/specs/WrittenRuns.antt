-- A run by the written names where the processes are looked for once, before the start.
use Rattle.std.specs.Prelude.{ℕ, List, [], Some, Ok, Err}
use Rattle.tla_value.specs.Value.{Outcome}
use Rattle.pcal_tree.specs.Scope.{State}
use Rattle.pcal_tree.specs.Choices.{Walk, went}
use Rattle.pcal_tree.specs.Program.{Program, Actor}
use Rattle.pcal_tree.specs.Processes.{actors}
use Rattle.pcal_tree.specs.StepAnswers.{Reply, stopped_by, replied}
use Rattle.step_walks.specs.FirstValues.{as_written}
use Rattle.step_walks.specs.Flows.{finish}
use Rattle.step_walks.specs.StartFlows.{parts_flow}
use Rattle.step_runner.specs.Script.{Script}
use Rattle.step_runner.specs.Followed.{Followed, after_reply}
use Rattle.written_runs.specs.Ways.{by_written_names, turns_followed_in}

-- a start with these processes
abbrev pub start_in : Program → List ℕ → List Actor → Walk
start_in P choices vs = finish (parts_flow (as_written P []) P choices vs) went

abbrev pub begun_in : Program → List ℕ → List Actor → Reply State
begun_in P choices vs = replied (λ s. s) P.algorithm.name.place (start_in P choices vs)

abbrev pub followed_in : Program → Script → List Actor → Followed
followed_in P c vs = after_reply 0 (turns_followed_in by_written_names P vs c.turns 1) (begun_in P c.choices vs)

-- where the processes can't be told, the start is what stops
abbrev pub followed_for : Program → Script → Outcome (List Actor) → Followed
followed_for P c (Err k) = record { states = []; stop = Some (record { step = 0; reply = stopped_by k }) }
followed_for P c (Ok vs) = followed_in P c vs

abbrev pub followed_once : Program → Script → Followed
followed_once P c = followed_for P c (actors P)
