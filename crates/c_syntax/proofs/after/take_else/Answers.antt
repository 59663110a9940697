-- Proves what is asked of `take_else`.
use Rattle.std.proofs.Common.{sym, subst}
use Rattle.expr_nodes.specs.Ahead.{ahead}
use Rattle.syntax_reading.specs.TokenReaders.{first}
use Rattle.c_reading.specs.ReadStatements.{ask_else, closed}
use Rattle.c_syntax.specs.Takes.{else_taken}
use Rattle.c_syntax.specs.AfterRead.{taken, TurnsTo}
use Rattle.c_syntax.proofs.AfterStatement.{else_as, ends_there}
use Rattle.c_syntax.proofs.after.take_else.Goals as goal

pub returns-clause-read : goal.returns-clause-read
returns-clause-read c ts n a o st k e h =
    let v = c.args.tokens.now in
    let us = ahead v c.args.at in
    let p = (first us).place in
    let end = c.args.end in
    subst (TurnsTo v ts c.past_word.result) (sym (else_as o p (closed ask_else a st) us))
    (c.past_word.ensures.read ts (taken (else_taken o p) (closed ask_else a st)) (c.in_ok-next.ensures ts end.block a st o p (ends_there ts c.args.state end a o st e h)))
