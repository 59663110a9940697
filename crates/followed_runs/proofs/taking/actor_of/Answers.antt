-- Proves that the process that is found is among those that there are.
use Rattle.followed_runs.proofs.ActorLaws.{one_at}
use Rattle.followed_runs.proofs.taking.actor_of.Goals as goal

pub returns-then-is_of-clause-among : goal.returns-then-is_of-clause-among
returns-then-is_of-clause-among c = one_at c.args.actors.now c.loop-actor.actor-index c.actor-item.result c.actor-item.is c.loop-actor-test.true
