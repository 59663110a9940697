-- What a start is made from, and what it answers, as what comes of it by a list of choices.
use Rattle.std.specs.Prelude.{◌≡◌, ◌≤◌, ℕ, List, map, length, drop, Ok, Err, Result}
use Rattle.tla_tree.specs.Nesting.{greatest}
use Rattle.module_tree.specs.Formulas.{self}
use Rattle.pcal_tree.specs.InMemory.{procedure_at, main_at, past_procedure, past_main}
use Rattle.pcal_tree.specs.Scope.{State}
use Rattle.pcal_tree.specs.Variables.{vars}
use Rattle.step_walks.specs.Flows.{Flow, falls}
use Rattle.step_moves.specs.Programs.{program_at, IsWhole}
use Rattle.step_moves.specs.StatesOf.{state_of}
use Rattle.step_choices.specs.declared.pause.Pause.{Pause}
use Rattle.step_choices.specs.Pauses.{Pauses}
use Rattle.step_moves.specs.Prepared.{prepared_procedures, prepared_main}
use Rattle.step_meaning.specs.declared.origin.Origin.{Origin}
use Rattle.step_meaning.specs.declared.origin.Start.{Start}

-- its procedures and what runs are the prepared ones, its names are those of the translation, and its numbers are of its pool
pub record IsOrigin (o : Origin) : Type 0 where
  pub whole : IsWhole o.program
  pub procedures : map (procedure_at o.program.pool.now) o.procedures.now ≡ prepared_procedures (program_at o.program)
  pub within : greatest (map past_procedure o.procedures.now) ≤ length o.program.pool.now
  pub main : main_at o.program.pool.now o.main.now ≡ prepared_main (program_at o.program) (program_at o.program).algorithm.main
  pub main_within : past_main o.main.now ≤ length o.program.pool.now
  pub variables : o.variables.now ≡ vars (program_at o.program)
  pub self_is : o.this.now ≡ self

-- it goes through to the state, with the choices that are left, or it pauses
abbrev pub Starts : Result Start Pause → List ℕ → Flow State → Type 0
Starts (Ok r) ns f = f ≡ falls (state_of r.state) (drop r.used ns)
Starts (Err p) ns f = Pauses p f
