-- Proves that a list that has items stays.
use Rattle.std.proofs.Common.{arith}
use Rattle.right_sides.proofs.ItemLaws.{filled_same}
use Rattle.right_sides.proofs.items.fill.Goals as goal

pub returns-else-is_empty-clause-items : goal.returns-else-is_empty-clause-items
returns-else-is_empty-clause-items c = filled_same c.args.place c.args.pool.now c.args.items.now.items _ (omega (arith, c.args.items.now.ok)) c.if-is_empty.ensures
