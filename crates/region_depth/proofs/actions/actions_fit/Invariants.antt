-- What is kept while a list is gone through: those before have room.
use Rattle.region_depth.proofs.Rows.{HaveRoom}
use Rattle.region_depth.proofs.Lists.{of_actions}
use Rattle.region_depth.proofs.actions.actions_fit.Given as goal

abbrev pub invariant-loop-action : goal.invariant-loop-action
invariant-loop-action l = HaveRoom (of_actions l.pool) 0 l.actions l.action-index
