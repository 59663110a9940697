-- Proves what is asked of `take_brace`.
use Rattle.std.proofs.Common.{sym, ap, subst}
use Rattle.tla_token.specs.declared.place.Place.{Place}
use Rattle.tla_tree.specs.Lexical.{Token}
use Rattle.expr_nodes.specs.Ahead.{ahead}
use Rattle.syntax_reading.specs.TokenReaders.{first}
use Rattle.algorithm_reader.specs.PartsRead.{parts_in}
use Rattle.c_reading.specs.ReadStatements.{ask_other, closed}
use Rattle.c_syntax.specs.Takes.{brace_taken, MayTurn}
use Rattle.c_syntax.specs.AfterRead.{taken, TurnsTo}
use Rattle.c_syntax.proofs.AfterStatement.{brace_as, ends_there}
use Rattle.c_syntax.proofs.after.take_brace.Goals as goal

pub returns-clause-read : goal.returns-clause-read
returns-clause-read c ts n a o st k e h =
    let v = c.args.tokens.now in
    let us = ahead v c.args.at in
    let end = c.args.end in
    let now = subst (λ (p : Place). MayTurn ts c.in_ok-next.next (taken (brace_taken o p) (closed ask_other a st))) (ap (λ (t : Token). t.place) c.next_token.ensures) (c.in_ok-next.ensures ts end.block a st o (ends_there ts c.args.state end a o st e h)) in
    subst (TurnsTo v ts c.past_brace.result) (sym (brace_as (parts_in v) n o (first us).place (closed ask_other a st) us)) (c.past_brace.ensures.read ts (taken (brace_taken o (first us).place) (closed ask_other a st)) now)
