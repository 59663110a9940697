-- Proves what is asked of `write_definitions`.
use Rattle.std.proofs.Common.{arith}
use Rattle.pcal_tree.specs.InMemory.{past_definition}
use Rattle.tla_tree.proofs.PoolNumbers.{past_at}
use Rattle.syntax_print.proofs.write_unit.write_definitions.Goals as goal

pub write_definition-requires : goal.write_definition-requires
write_definition-requires c = (let one = past_at past_definition c.args.list.now c.loop-definition.definition-index c.definition-item.result c.definition-item.is c.loop-definition-test.true in omega (arith, one, c.requires))
