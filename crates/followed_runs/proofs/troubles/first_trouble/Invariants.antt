-- What the loop keeps: the first trouble of the processes that are left is that of all.
use Rattle.std.proofs.Common.{◌≡◌, drop, map}
use Rattle.step_moves.specs.InMemory.{actor_at}
use Rattle.step_moves.specs.StatesOf.{state_of}
use Rattle.written_runs.specs.WrittenTroubles.{written_trouble_of_all}
use Rattle.followed_runs.specs.Parties.{program_of, actors_of}
use Rattle.followed_runs.proofs.troubles.first_trouble.Given as goal

abbrev pub invariant-loop-actor : goal.invariant-loop-actor
invariant-loop-actor l =
    written_trouble_of_all (program_of l.party) (state_of l.state) (map (actor_at l.party.stage.program.pool.now) (drop l.actor-index l.actors))
    ≡ written_trouble_of_all (program_of l.party) (state_of l.state) (actors_of l.party)
