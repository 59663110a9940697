-- Proves what is asked of `read_in_list`.
use Rattle.std.proofs.Common.{sym, subst, ◌∙◌}
use Rattle.tla_tree.specs.Lexical.{TokenView, close_brace}
use Rattle.tla_tree.proofs.SoundTokens.{mark_is}
use Rattle.expr_nodes.specs.Ahead.{ahead}
use Rattle.syntax_reading.specs.TokenReaders.{first}
use Rattle.algorithm_reader.specs.PartsRead.{parts_in}
use Rattle.c_reading.specs.ReadStatements.{ask_other, closed, list_by}
use Rattle.c_syntax.specs.AfterRead.{TurnsTo}
use Rattle.c_syntax.proofs.NextStatement.{mark_is_there}
use Rattle.c_syntax.proofs.after.read_in_list.Goals as goal

pub take_brace-requires : goal.take_brace-requires
take_brace-requires c = mark_is_there c.args.tokens.now c.args.at close_brace c.requires.there (sym c.is_next_mark.ensures ∙ c.if-is_next_mark.true)

pub returns-then-is_next_mark-clause-read : goal.returns-then-is_next_mark-clause-read
returns-then-is_next_mark-clause-read c n a o st k e h =
    let v = c.args.tokens.now in
    let us = ahead v c.args.at in
    subst (λ (z : TokenView). TurnsTo v c.args.pool.now c.take_brace.result (list_by (parts_in v) n o (first us).place z (closed ask_other a st) us)) (sym (mark_is close_brace (first us).kind (sym c.is_next_mark.ensures ∙ c.if-is_next_mark.true)))
    (c.take_brace.ensures.read c.args.pool.now n a o st k e h)

pub read_another-requires-clause-another : goal.read_another-requires-clause-another
read_another-requires-clause-another c = sym c.is_next_mark.ensures ∙ c.if-is_next_mark.false
