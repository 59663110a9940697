-- A routine with its prepared variables, and what comes of them.
use Rattle.std.specs.Prelude.{◌≡◌, ◌≤◌, ℕ, List, [], length, true}
use Rattle.tla_token.specs.Signs.{is_among}
use Rattle.tla_tree.specs.Tree.{Each}
use Rattle.pcal_tree.specs.Algorithm.{locals}
use Rattle.pcal_tree.specs.Algorithm as tree
use Rattle.pcal_tree.specs.InMemory.{declarations_at, past_declarations}
use Rattle.pcal_tree.specs.InitialStates.{is_multiprocess, running}
use Rattle.pcal_tree.specs.Program.{Program, Actor}
use Rattle.pcal_tree.specs.Scope.{State}
use Rattle.pcal_tree.specs.Variables.{vars, written_all}
use Rattle.step_walks.specs.FirstValues.{as_written}
use Rattle.step_walks.specs.Flows.{Flow}
use Rattle.step_walks.specs.StartFlows.{locals_flow}
use Rattle.step_spots.specs.InMemory.{routine_at}
use Rattle.step_spots.specs.declared.routine.Routine.{Routine}
use Rattle.step_moves.specs.declared.program.Program as code
use Rattle.step_moves.specs.Programs.{program_at}
use Rattle.step_moves.specs.Prepared.{prepared_declarations}
use Rattle.step_meaning.specs.declared.routines.Locals.{Locals}

-- the variables of a routine are variables of the translation
abbrev pub AreKnown : Program → tree.Routine → Type 0
AreKnown P u = Each (λ x. is_among (vars P) x ≡ true) (written_all P u (locals u))

-- these are the variables of a routine, as they are and prepared; all numbers are of the pool
pub record IsReadied (p : code.Program) (u : Routine) (l : Locals) : Type 0 where
  pub params : declarations_at p.pool.now l.params.now ≡ (routine_at p.pool.now u).params
  pub variables : declarations_at p.pool.now l.variables.now ≡ (routine_at p.pool.now u).variables
  pub prepared_params : declarations_at p.pool.now l.prepared_params.now ≡ prepared_declarations (program_at p) (routine_at p.pool.now u) (declarations_at p.pool.now l.params.now)
  pub prepared_variables : declarations_at p.pool.now l.prepared_variables.now ≡ prepared_declarations (program_at p) (routine_at p.pool.now u) (declarations_at p.pool.now l.variables.now)
  pub params_below : past_declarations l.params.now ≤ length p.pool.now
  pub variables_below : past_declarations l.variables.now ≤ length p.pool.now
  pub params_within : past_declarations l.prepared_params.now ≤ length p.pool.now
  pub variables_within : past_declarations l.prepared_variables.now ≤ length p.pool.now
  pub known : AreKnown (program_at p) (routine_at p.pool.now u)

-- what comes of the variables of one procedure, and of one process
abbrev pub procedure_flow : Program → tree.Routine → List Actor → State → List ℕ → Flow State
procedure_flow P u vs s ns = locals_flow (as_written P []) P u (is_multiprocess P.algorithm.main) vs (locals u) s ns

abbrev pub process_flow : Program → tree.Routine → List Actor → State → List ℕ → Flow State
process_flow P u vs s ns = locals_flow (as_written P []) P u u.spread (running u vs) (locals u) s ns
