-- Proves what is asked of `write_macros`.
use Rattle.std.proofs.Common.{arith}
use Rattle.pcal_tree.specs.InMemory.{past_macro}
use Rattle.tla_tree.proofs.PoolNumbers.{past_at}
use Rattle.syntax_print.proofs.write_unit.write_macros.Goals as goal

pub write_macro-requires : goal.write_macro-requires
write_macro-requires c = (let one = past_at past_macro c.args.list.now c.loop-unit.unit-index c.unit-item.result c.unit-item.is c.loop-unit-test.true in omega (arith, one, c.requires))
