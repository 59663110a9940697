-- Proves what is asked of `take_end`.
use Rattle.std.proofs.Common.{sym, subst}
use Rattle.expr_nodes.specs.ReadIn.{Reads}
use Rattle.expr_nodes.specs.Ahead.{ahead}
use Rattle.syntax_reading.specs.TokenReaders.{first}
use Rattle.p_reading.specs.ReadStatements.{Stack, takes_end}
use Rattle.p_syntax.proofs.Closed.{innermost_stands}
use Rattle.p_syntax.proofs.Endings.{On}
use Rattle.p_syntax.proofs.ending.take_end.Goals as goal

pub returns-in_ok-next-in-Some-clause-read : goal.returns-in_ok-next-in-Some-clause-read
returns-in_ok-next-in-Some-clause-read c ts d st h k =
    let us = ahead c.args.tokens.now c.args.at in
    let said = c.in_ok-next-in-Some in
    let n = innermost_stands ts c.args.state.stack.items c.in-Some.open c.in-Some.around st k c.in-Some.ensures.some in
    subst (λ (z : Stack). Reads (On ts said.next) (ahead c.args.tokens.now said.end) (takes_end d (first us).place z us)) (sym n.is) (said.ensures.read ts d n.shape h n.stands n.before n.labels n.under n.around)
