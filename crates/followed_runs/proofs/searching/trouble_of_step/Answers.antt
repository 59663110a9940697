-- Proves that without choices the whole step is left.
use Rattle.std.proofs.Common.{refl}
use Rattle.followed_runs.specs.Tries.{step_by}
use Rattle.followed_runs.proofs.searching.trouble_of_step.Goals as goal

pub trouble_behind-requires-clause-wanted : goal.trouble_behind-requires-clause-wanted
trouble_behind-requires-clause-wanted c = (step_by c.args.party.now c.args.actor.now c.args.state.now, refl)
