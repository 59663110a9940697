-- Proves what is asked of `read_after`.
use Rattle.std.proofs.Common.{Bool, sym, ap, subst, ◌∙◌, codes}
use Rattle.expr_nodes.specs.Ahead.{ahead}
use Rattle.syntax_reading.specs.TokenReaders.{first}
use Rattle.algorithm_reader.specs.PartsRead.{parts_in}
use Rattle.c_syntax.specs.AfterRead.{is_its_semicolon, TurnsTo}
use Rattle.c_syntax.proofs.NextStatement.{word_is_there}
use Rattle.c_syntax.proofs.AfterStatement.{by_else, by_or, by_list, semicolon_passed}
use Rattle.c_syntax.proofs.after.read_after.Goals as goal

pub returns-then-is_semicolon_next-clause-read : goal.returns-then-is_semicolon_next-clause-read
returns-then-is_semicolon_next-clause-read c n a o st k e h =
    semicolon_passed (parts_in c.args.tokens.now) n c.args.pool.now c.args.tokens.now c.args.at c.divided.result c.args.end a o st (sym c.is_semicolon_next.ensures ∙ c.if-is_semicolon_next.true) e (λ p i. c.divided.ensures c.args.pool.now a p st i h)

pub take_else-requires : goal.take_else-requires
take_else-requires c = word_is_there c.args.tokens.now c.args.at (codes "else") c.requires.there (sym c.is_next_word.ensures ∙ c.if-is_next_word.true)

pub returns-then-is_next_word-clause-read : goal.returns-then-is_next_word-clause-read
returns-then-is_next_word-clause-read c n a o st k e h =
    let v = c.args.tokens.now in
    subst (TurnsTo v c.args.pool.now c.take_else.result) (sym (by_else (parts_in v) n a st o (ahead v c.args.at) (sym c.is_next_word.ensures ∙ c.if-is_next_word.true))) (c.take_else.ensures.read c.args.pool.now n a o st k e h)

pub take_or-requires : goal.take_or-requires
take_or-requires c = word_is_there c.args.tokens.now c.args.at (codes "or") c.requires.there (sym c.is_next_word-else-is_next_word.ensures ∙ c.if-is_next_word-2.true)

pub returns-then-is_next_word-2-clause-read : goal.returns-then-is_next_word-2-clause-read
returns-then-is_next_word-2-clause-read c n a o st k e h =
    let v = c.args.tokens.now in
    subst (TurnsTo v c.args.pool.now c.take_or.result) (sym (by_or (parts_in v) n a st o (ahead v c.args.at) (sym c.is_next_word-else-is_next_word.ensures ∙ c.if-is_next_word-2.true))) (c.take_or.ensures.read c.args.pool.now n a o st k e h)

pub returns-else-is_next_word-2-clause-read : goal.returns-else-is_next_word-2-clause-read
returns-else-is_next_word-2-clause-read c n a o st k e h =
    let v = c.args.tokens.now in
    let us = ahead v c.args.at in
    let no_semicolon = ap (λ (z : Bool). is_its_semicolon z (first us).kind) (sym e.divided) ∙ sym c.is_semicolon_next.ensures ∙ c.if-is_semicolon_next.false in
    subst (TurnsTo v c.read_in_list.new.pool c.read_in_list.result)
    (sym (by_list (parts_in v) n a st o (first us).place (first us).kind us no_semicolon (sym c.is_next_word.ensures ∙ c.if-is_next_word.false) (sym c.is_next_word-else-is_next_word.ensures ∙ c.if-is_next_word-2.false)))
    (c.read_in_list.ensures.read n a o st k e h)
