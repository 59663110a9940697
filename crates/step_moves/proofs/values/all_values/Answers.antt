-- Proves that the numbers are of the pool.
use Rattle.std.proofs.Common.{length}
use Rattle.tla_tree.proofs.PoolNumbers.{AllBelow-at}
use Rattle.step_moves.proofs.values.all_values.Goals as goal

pub value-requires-clause-below : goal.value-requires-clause-below
value-requires-clause-below c = AllBelow-at (length c.args.program.now.pool.now) c.args.list.now c.loop-e.e-index 0 c.requires.below c.loop-e-test.true
