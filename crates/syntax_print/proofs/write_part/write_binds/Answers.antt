-- Proves what is asked of `write_binds`.
use Rattle.std.proofs.Common.{arith}
use Rattle.tla_write.proofs.OneMore.{parted_more}
use Rattle.syntax_print.proofs.Commas.{binds_parted}
use Rattle.tla_tree.proofs.PoolNumbers.{past_at}
use Rattle.pcal_tree.specs.InMemory.{past_bind}
use Rattle.syntax_print.proofs.write_part.write_binds.Goals as goal

pub write_bind-requires : goal.write_bind-requires
write_bind-requires c = (let one = past_at past_bind c.args.binds.now c.loop-i.i c.index-binds-i.result c.index-binds-i.is c.loop-i-test.true in omega (arith, one, c.requires))

pub loop-i-preserved : goal.loop-i-preserved
loop-i-preserved c =
    parted_more _ _ _ (binds_parted c.args.pool.now) c.args.into.now c.loop-i.into c.write_between.new.into c.write_bind.new.into c.args.binds.now c.loop-i.i c.index-binds-i.result
    c.index-binds-i.is c.loop-i-test.true c.loop-i.invariant c.in_ok-write_between.ensures c.in_ok-write_bind.ensures
