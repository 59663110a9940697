-- Proves what is asked of `len`.
use Rattle.std.proofs.Common.{arith, ap, length, []}
use Rattle.tla_pool.proofs.PoolGrown.{length-grown}
use Rattle.tla_pool.proofs.pool.Pool.len.Goals as goal

pub returns : goal.returns
returns c = omega (arith, length-grown [] c.self.inside.nodes.keys, ap length c.self.view_is, c.len.ensures.len)
