use Rattle.std.proofs.Common.{sym, ◌∙◌}
use Rattle.module_tree.proofs.Braces.{titled_open, titled_other}
use Rattle.module_split.proofs.algorithm.after_name.Goals as goal

pub returns-then-opens-clause-is : goal.returns-then-opens-clause-is
returns-then-opens-clause-is c k h = titled_open c.args.ended k (sym c.if-opens.true ∙ c.opens.ensures c.args.bytes.now k h)

pub returns-else-opens-clause-is : goal.returns-else-opens-clause-is
returns-else-opens-clause-is c k h = c.next_p.ensures.is k h ∙ titled_other c.args.ended k (sym c.if-opens.false ∙ c.opens.ensures c.args.bytes.now k h)
