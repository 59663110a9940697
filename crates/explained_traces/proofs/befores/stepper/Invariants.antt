-- What the loop keeps: the process that is found from here on is the one that is found among all.
use Rattle.std.proofs.Common.{◌≡◌, drop, map}
use Rattle.module_tree.specs.Module.{Module}
use Rattle.step_moves.specs.InMemory.{actor_at}
use Rattle.step_runner.specs.Shown.{first_holding}
use Rattle.action_truth.specs.AskedOf.{IsAsked}
use Rattle.explained_traces.specs.Judging.{mine_of}
use Rattle.explained_traces.proofs.befores.stepper.Given as goal

abbrev pub invariant-loop-actor : goal.invariant-loop-actor
invariant-loop-actor l =
    (m : Module) → IsAsked l.judge.asked m
    → first_holding (mine_of l.judge m l.pair) (map (actor_at l.judge.party.stage.program.pool.now) (drop l.actor-index l.actors)) ≡ first_holding (mine_of l.judge m l.pair) (map (actor_at l.judge.party.stage.program.pool.now) l.actors)
