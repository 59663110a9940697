-- Proves what is asked of `write_declarations`.
use Rattle.std.proofs.Common.{arith}
use Rattle.tla_write.proofs.OneMore.{parted_more}
use Rattle.syntax_print.proofs.Commas.{declarations_parted}
use Rattle.tla_tree.proofs.PoolNumbers.{past_at}
use Rattle.pcal_tree.specs.InMemory.{past_declaration}
use Rattle.syntax_print.proofs.write_part.write_declarations.Goals as goal

pub write_declaration-requires : goal.write_declaration-requires
write_declaration-requires c = (let one = past_at past_declaration c.args.declarations.now c.loop-i.i c.index-declarations-i.result c.index-declarations-i.is c.loop-i-test.true in omega (arith, one, c.requires))

pub loop-i-preserved : goal.loop-i-preserved
loop-i-preserved c =
    parted_more _ _ _ (declarations_parted c.args.pool.now) c.args.into.now c.loop-i.into c.write_between.new.into c.write_declaration.new.into c.args.declarations.now c.loop-i.i c.index-declarations-i.result
    c.index-declarations-i.is c.loop-i-test.true c.loop-i.invariant c.in_ok-write_between.ensures c.in_ok-write_declaration.ensures
