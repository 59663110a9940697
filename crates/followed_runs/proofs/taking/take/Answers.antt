-- Proves that the process that is found is one of the algorithm.
use Rattle.followed_runs.proofs.OwnLaws.{one_own}
use Rattle.followed_runs.proofs.taking.take.Goals as goal

pub step-requires-clause-own : goal.step-requires-clause-own
step-requires-clause-own c = one_own c.args.party.now.stage c.args.party.now.actors.now c.in-Some.actor.now c.requires.party.own c.in-Some.ensures.among
