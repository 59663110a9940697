-- What each process of a program runs but for procedures is the one body, or a process of the algorithm.
use Rattle.std.proofs.Common.{◌≡◌, List, [], ◌∷◌, map, ap, refl, Ok, inl, inr}
use Rattle.std.specs.List.{AllByRecursion}
use Rattle.pcal_tree.specs.Processes.{actors, OneOf}
use Rattle.pcal_tree.proofs.OneStand.{own_is_main}
use Rattle.pcal_tree.proofs.RoutineNames.{every_one}
use Rattle.pcal_tree.specs.Algorithm.{main_routines}
use Rattle.step_spots.specs.InMemory.{routine_at}
use Rattle.step_moves.specs.Programs.{program_at}
use Rattle.step_moves.specs.declared.actor.Actor.{Actor}
use Rattle.step_moves.specs.InMemory.{actor_at}
use Rattle.step_meaning.specs.declared.stage.Stage.{Stage}
use Rattle.followed_runs.specs.Parties.{AreOwn}

one_map : {X Y : Type 0} (f : X → Y) (x : X) (xs : List X) → OneOf x xs → OneOf (f x) (map f xs)
one_map f x [] h = absurd h
one_map f x (y ∷ ys) (inl e) = inl (ap f e)
one_map f x (y ∷ ys) (inr h) = inr (one_map f x ys h)

every_of : {X : Type 0} (Q : X → Type 0) (xs : List X) → ((x : X) → OneOf x xs → Q x) → AllByRecursion Q xs
every_of Q [] h = tt
every_of Q (x ∷ xs) h = (h x (inl refl), every_of Q xs (λ y k. h y (inr k)))

abbrev IsOwn : Stage → Actor → Type 0
IsOwn g a = OneOf (routine_at g.program.pool.now a.own) (main_routines (program_at g.program).algorithm (program_at g.program).algorithm.main)

pub all_own : (g : Stage) (all : List Actor) → actors (program_at g.program) ≡ Ok (map (actor_at g.program.pool.now) all) → AreOwn g all
all_own g all e =
    let at = actor_at g.program.pool.now in
    every_of (IsOwn g) all (λ a h. own_is_main (program_at g.program) (at a) (map at all, e, one_map at a all h))

pub one_own : (g : Stage) (all : List Actor) (a : Actor) → AreOwn g all → OneOf a all → IsOwn g a
one_own g all a h m = every_one (IsOwn g) a all h m
