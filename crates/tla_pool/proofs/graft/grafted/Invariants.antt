-- Why the loop of `grafted` ends, and what it keeps: what is made is right, and the visits to come are in order.
use Rattle.tla_pool.specs.Visits.{all_work}
use Rattle.tla_pool.proofs.VisitLemmas.{Goes}
use Rattle.tla_pool.proofs.graft.grafted.Given as goal

abbrev pub invariant-loop-visit : goal.invariant-loop-visit
invariant-loop-visit g l = Goes (g.G.Grafting.graft l.g l.fn.pool) l.fn.pool l.pool l.done l.ahead.items l.fn.e

abbrev pub decreases-loop-visit : goal.decreases-loop-visit
decreases-loop-visit g l = all_work l.fn.pool l.ahead.items
