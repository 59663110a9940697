-- Proves what is asked of `differ`.
use Rattle.std.proofs.Common.{subst}
use Rattle.tla_tree.specs.Pool.{Differ}
use Rattle.tla_pool.proofs.PoolGrown.{Differ-grown}
use Rattle.tla_pool.proofs.pool.Pool.differ.Goals as goal

pub returns : goal.returns
returns c = subst Differ c.self.view_is (Differ-grown c.self.inside.nodes.keys c.self.invariant.0 c.len-count.ensures.unique)
