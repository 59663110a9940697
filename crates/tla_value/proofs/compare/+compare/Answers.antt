-- Proves what is asked of `compare`.
use Rattle.std.proofs.Common.{arith, sym, ◌∙◌}
use Rattle.std.proofs.lemmas.Grind.{common_steps}
use Rattle.tla_value.proofs.ValueLists.{orders-longer, orders-shorter, count-values_in}
use Rattle.tla_value.proofs.compare.+compare.Goals as goal

pub compare_all-returns-then-i-b : goal.compare_all-returns-then-i-b
compare_all-returns-then-i-b t c = sym (c.loop-i.invariant.1 ∙ orders-longer c.args.a.now c.args.b.now c.loop-i.i (omega arith) (omega arith))

pub compare_all-returns-then-a-b : goal.compare_all-returns-then-a-b
compare_all-returns-then-a-b t c = sym (c.loop-i.invariant.1 ∙ orders-shorter c.args.a.now c.args.b.now c.loop-i.i (omega arith) (omega arith))

pub compare_sized-returns-in-Equal : goal.compare_sized-returns-in-Equal
compare_sized-returns-in-Equal t c = grind (arith, common_steps, count-values_in)

pub compare_sized-returns-in_default : goal.compare_sized-returns-in_default
compare_sized-returns-in_default t c = grind (arith, common_steps, count-values_in)
