-- Where a process is, in memory: a label of a routine whose statements are prepared.
use Rattle.std.specs.Prelude.{◌≡◌, ◌≤◌, List, length}
use Rattle.tla_tree.specs.Tree.{Tree}
use Rattle.pcal_tree.specs.Algorithm.{Routine, procedure_routine, numbered, first_procedure, routines}
use Rattle.pcal_tree.specs.InMemory.{past_statements}
use Rattle.pcal_tree.specs.Processes.{OneOf}
use Rattle.pcal_tree.specs.Program.{Program}
use Rattle.pcal_tree.specs.Step as pure
use Rattle.pcal_tree.specs.StepAnswers.{label_place}
use Rattle.step_spots.specs.InMemory.{spot_at, routine_at}
use Rattle.step_moves.specs.Programs.{program_at}
use Rattle.step_moves.specs.declared.program.Program as code
use Rattle.step_moves.specs.Prepared.{prepared_procedures, prepared_routine}
use Rattle.written_runs.specs.OwnSpots.{prepared_stand}
use Rattle.step_meaning.specs.declared.stage.Stage.{Stage}
use Rattle.step_meaning.specs.declared.stands.Stand.{Stand}

abbrev pub stand_at : List Tree → Stand → pure.Stand
stand_at ts one = record { routine = routine_at ts one.routine; label = one.spot.label.now.word; begins = (spot_at ts one.spot).begins }

-- with the routine and the statements prepared
abbrev pub prepared_at : Program → pure.Stand → pure.Stand
prepared_at P d = prepared_stand P d.routine (prepared_routine P d.routine) d

abbrev pub prepared_procedure_routines : Program → List Routine
prepared_procedure_routines P = numbered procedure_routine (first_procedure P.algorithm) (prepared_procedures P)

-- its numbers are of the pool, and the label is where it says
pub record IsPlaced (p : code.Program) (one : Stand) : Type 0 where
  pub within : past_statements one.spot.items.now ≤ length p.pool.now
  pub place : label_place (routine_at p.pool.now one.routine) one.spot.label.now.word ≡ one.spot.label.now.place

-- it is what is prepared of a place where the process may be
pub record IsStandOf (g : Stage) (one : Stand) (d : pure.Stand) : Type 0 where
  pub one_of : OneOf d.routine (routines (program_at g.program).algorithm)
  pub prepared : stand_at g.program.pool.now one ≡ prepared_at (program_at g.program) d
