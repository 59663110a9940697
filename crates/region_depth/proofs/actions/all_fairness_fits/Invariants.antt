-- What is kept while a list is gone through: those before have room.
use Rattle.region_depth.proofs.Rows.{HaveRoom}
use Rattle.region_depth.proofs.Lists.{of_fairness}
use Rattle.region_depth.proofs.actions.all_fairness_fits.Given as goal

abbrev pub invariant-loop-fairness : goal.invariant-loop-fairness
invariant-loop-fairness l = HaveRoom (of_fairness l.pool) 0 l.all l.fairness-index
