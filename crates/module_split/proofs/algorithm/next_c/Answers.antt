use Rattle.std.proofs.Common.{sym, ◌∙◌}
use Rattle.module_tree.proofs.Braces.{opened_c, other_c, closed_last, closed_more}
use Rattle.module_split.proofs.algorithm.next_c.Goals as goal

pub returns-then-opens-clause-is : goal.returns-then-opens-clause-is
returns-then-opens-clause-is c bytes k h = opened_c c.args.braces k (sym c.if-opens.true ∙ c.opens.ensures bytes k h)

pub returns-then-not-closes-clause-is : goal.returns-then-not-closes-clause-is
returns-then-not-closes-clause-is c bytes k h = other_c c.args.braces k (sym c.if-opens.false ∙ c.opens.ensures bytes k h) (sym c.if-not-closes.true ∙ c.closes.ensures bytes k h)

pub returns-then-braces-le1-clause-is : goal.returns-then-braces-le1-clause-is
returns-then-braces-le1-clause-is c bytes k h = closed_last c.args.braces k (sym c.if-not-closes.false ∙ c.closes.ensures bytes k h) c.if-braces-le1.true

pub returns-else-braces-le1-clause-is : goal.returns-else-braces-le1-clause-is
returns-else-braces-le1-clause-is c bytes k h = closed_more c.args.braces k (sym c.if-not-closes.false ∙ c.closes.ensures bytes k h) c.if-braces-le1.false
