-- Proves that each conjunct is one of the pool's.
use Rattle.std.proofs.Common.{length}
use Rattle.tla_tree.proofs.PoolNumbers.{AllBelow-at}
use Rattle.region_depth.proofs.expression.conjuncts_fit.Goals as goal

pub expression_fits-requires-clause-there : goal.expression_fits-requires-clause-there
expression_fits-requires-clause-there c = AllBelow-at (length c.args.pool.now) c.args.conjuncts.now c.loop-e.e-index 0 c.requires c.loop-e-test.true
