-- Proves that the process that is found is among those that there are.
use Rattle.followed_runs.proofs.ActorLaws.{one_at}
use Rattle.explained_traces.proofs.befores.stepper.Goals as goal

pub returns-then-branch-clause-among : goal.returns-then-branch-clause-among
returns-then-branch-clause-among c = one_at c.args.actors.now c.loop-actor.actor-index c.actor-item.result c.actor-item.is c.loop-actor-test.true
