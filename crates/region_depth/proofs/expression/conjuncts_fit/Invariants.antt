-- What is kept while a list is gone through: those before have room.
use Rattle.region_depth.proofs.Rows.{HaveRoom}
use Rattle.region_depth.proofs.Lists.{of_conjuncts}
use Rattle.region_depth.proofs.expression.conjuncts_fit.Given as goal

abbrev pub invariant-loop-e : goal.invariant-loop-e
invariant-loop-e l = HaveRoom (of_conjuncts l.pool) 0 l.conjuncts l.e-index
