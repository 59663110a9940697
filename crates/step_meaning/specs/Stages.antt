-- What steps are taken from, and a process in a routine of it.
use Rattle.std.specs.Prelude.{◌≡◌, ◌≤◌, map, length}
use Rattle.std.specs.List.{AllByRecursion}
use Rattle.tla_tree.specs.Nesting.{greatest}
use Rattle.module_tree.specs.Formulas.{self}
use Rattle.pcal_tree.specs.Algorithm.{Procedure, Routine, routines}
use Rattle.pcal_tree.specs.InMemory.{procedure_at, main_at, past_procedure, past_main}
use Rattle.pcal_tree.specs.Processes.{OneOf}
use Rattle.pcal_tree.specs.Variables.{pc, stack}
use Rattle.step_forms.specs.Opened.{IsOpenable}
use Rattle.step_moves.specs.Programs.{program_at, IsWhole}
use Rattle.step_spots.specs.declared.routine.Routine as spots
use Rattle.step_spots.specs.InMemory.{routine_at}
use Rattle.step_moves.specs.Prepared.{prepared_procedures, prepared_main, prepared_routine, IsLabelled}
use Rattle.step_meaning.specs.declared.stage.Stage.{Stage}

-- its names are these, and its procedures and main part are the prepared ones
pub record IsStage (g : Stage) : Type 0 where
  pub pc_is : g.pc.now ≡ pc
  pub stack_is : g.stack.now ≡ stack
  pub self_is : g.this.now ≡ self
  pub procedures : map (procedure_at g.program.pool.now) g.procedures.now ≡ prepared_procedures (program_at g.program)
  pub main : main_at g.program.pool.now g.main.now ≡ prepared_main (program_at g.program) (program_at g.program).algorithm.main
  pub procedures_within : greatest (map past_procedure g.procedures.now) ≤ length g.program.pool.now
  pub main_within : past_main g.main.now ≤ length g.program.pool.now
  pub labelled : AllByRecursion (λ (p : Procedure). IsLabelled p.body) (program_at g.program).algorithm.procedures
  pub openable : IsOpenable (program_at g.program).algorithm
  pub whole : IsWhole g.program

-- in memory it is what is prepared of a routine of the algorithm
pub record IsPrepared (g : Stage) (r : spots.Routine) (u : Routine) : Type 0 where
  pub one_of : OneOf u (routines (program_at g.program).algorithm)
  pub prepared : routine_at g.program.pool.now r ≡ prepared_routine (program_at g.program) u
