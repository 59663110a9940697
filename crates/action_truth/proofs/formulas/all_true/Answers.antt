-- Proves that the expressions are tested up to the first that isn't true.
use Rattle.std.proofs.Common.{length}
use Rattle.tla_tree.proofs.PoolNumbers.{AllBelow-at}
use Rattle.action_truth.proofs.formulas.all_true.Goals as goal

pub truth-requires-clause-below : goal.truth-requires-clause-below
truth-requires-clause-below c = AllBelow-at (length c.args.pair.now.asked.pool.now) c.args.list.now c.loop-e.e-index 0 c.requires.below c.loop-e-test.true
