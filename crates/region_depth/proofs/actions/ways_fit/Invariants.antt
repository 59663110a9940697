-- What is kept while a list is gone through: those before have room.
use Rattle.region_depth.proofs.Rows.{HaveRoom}
use Rattle.region_depth.proofs.Lists.{of_ways}
use Rattle.region_depth.proofs.actions.ways_fit.Given as goal

abbrev pub invariant-loop-way : goal.invariant-loop-way
invariant-loop-way l = HaveRoom (of_ways l.pool) 0 l.ways l.way-index
