-- The processes of a run, with what their steps are taken from.
use Rattle.std.specs.Prelude.{◌≡◌, List, map, Ok}
use Rattle.std.specs.List.{AllByRecursion}
use Rattle.pcal_tree.specs.Algorithm.{main_routines}
use Rattle.pcal_tree.specs.Processes.{actors, OneOf}
use Rattle.pcal_tree.specs.Program as pure
use Rattle.pcal_tree.specs.Variables.{vars}
use Rattle.step_spots.specs.InMemory.{routine_at}
use Rattle.step_moves.specs.Programs.{program_at}
use Rattle.step_moves.specs.declared.actor.Actor.{Actor}
use Rattle.step_moves.specs.InMemory.{actor_at}
use Rattle.step_meaning.specs.declared.stage.Stage.{Stage}
use Rattle.step_meaning.specs.Stages.{IsStage}
use Rattle.followed_runs.specs.declared.party.Party.{Party}

abbrev pub program_of : Party → pure.Program
program_of p = program_at p.stage.program

abbrev pub actors_of : Party → List pure.Actor
actors_of p = map (actor_at p.stage.program.pool.now) p.actors.now

-- what each runs but for procedures is the one body, or a process of the algorithm
abbrev pub AreOwn : Stage → List Actor → Type 0
AreOwn g all =
    AllByRecursion (λ (a : Actor). OneOf (routine_at g.program.pool.now a.own) (main_routines (program_at g.program).algorithm (program_at g.program).algorithm.main)) all

-- they are the processes of the program, and the variables are its
pub record IsParty (p : Party) : Type 0 where
  pub stage : IsStage p.stage
  pub variables : p.variables.now ≡ vars (program_of p)
  pub actors : actors (program_of p) ≡ Ok (actors_of p)
  pub own : AreOwn p.stage p.actors.now
