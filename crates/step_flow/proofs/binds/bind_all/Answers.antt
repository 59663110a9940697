-- Proves that all names are bound.
use Rattle.std.proofs.Common.{arith}
use Rattle.tla_tree.proofs.PoolNumbers.{past_at}
use Rattle.pcal_tree.specs.InMemory.{past_bind}
use Rattle.step_flow.proofs.binds.bind_all.Goals as goal

pub bind_one-requires-clause-below : goal.bind_one-requires-clause-below
bind_one-requires-clause-below c = let past = past_at past_bind c.args.binds.now c.loop-i.i c.index-binds-i.result c.index-binds-i.is c.loop-i-test.true in omega (arith, past, c.requires.below)
