-- Proves what is asked of `read_on`.
use Rattle.std.proofs.Common.{ℕ, List, refl, sym, subst, ◌∙◌, codes, Result}
use Rattle.tla_token.specs.declared.token.Tokens.{Tokens}
use Rattle.tla_tree.specs.Tree.{Tree}
use Rattle.tla_tree.specs.Reader.{Out}
use Rattle.expr_nodes.specs.declared.cursor.Halt.{Halt}
use Rattle.expr_nodes.specs.ReadIn.{Told}
use Rattle.expr_nodes.specs.Ahead.{ahead}
use Rattle.pcal_tree.specs.GrammarP.{last_statement}
use Rattle.algorithm_reader.specs.PartsRead.{parts_in}
use Rattle.p_reading.specs.ReadStatements.{Turn, with_before}
use Rattle.p_syntax.specs.declared.open.State.{State}
use Rattle.p_syntax.specs.declared.open.Turn.TheVariants as turn
use Rattle.p_syntax.specs.StatesRead.{TurnStands}
use Rattle.p_syntax.proofs.NextStatement.{word_is_there}
use Rattle.p_syntax.proofs.AfterStatement.{whole_stands, by_closing, by_another}
use Rattle.p_syntax.proofs.statements.read_on.Goals as goal

abbrev Gives : Tokens → List Tree → Result (State × ℕ) Halt → Out Turn → Type 0
Gives v ts r o = Told (λ (x : State × ℕ) (t : Turn). TurnStands ts (turn.On x.0) t) (λ x. ahead v x.1) r o

pub take_else-requires : goal.take_else-requires
take_else-requires c = word_is_there c.args.tokens.now c.args.at (codes "else") c.requires.there (sym c.is_next_word.ensures ∙ c.if-is_next_word.true)

pub returns-then-is_next_word-clause-read : goal.returns-then-is_next_word-clause-read
returns-then-is_next_word-clause-read c n b ls a o st k e h z =
    let v = c.args.tokens.now in
    subst (Gives v c.args.pool.now c.take_else.result) (sym (by_closing (parts_in v) n b ls a o st (codes "else") (ahead v c.args.at) (λ q d. refl) (sym c.is_next_word.ensures ∙ c.if-is_next_word.true)))
    (c.take_else.ensures.read c.args.pool.now (with_before b (last_statement ls a o)) st (whole_stands _ c.args.state b ls a o h.list) h.stack h.depth)

pub take_elsif-requires-clause-there : goal.take_elsif-requires-clause-there
take_elsif-requires-clause-there c = word_is_there c.args.tokens.now c.args.at (codes "elsif") c.requires.there (sym c.is_next_word-else-is_next_word.ensures ∙ c.if-is_next_word-2.true)

pub returns-then-is_next_word-2-clause-read : goal.returns-then-is_next_word-2-clause-read
returns-then-is_next_word-2-clause-read c n b ls a o st k e h z =
    let v = c.args.tokens.now in
    subst (Gives v c.take_elsif.new.pool c.take_elsif.result) (sym (by_closing (parts_in v) n b ls a o st (codes "elsif") (ahead v c.args.at) (λ q d. refl) (sym c.is_next_word-else-is_next_word.ensures ∙ c.if-is_next_word-2.true)))
    (c.take_elsif.ensures.read (with_before b (last_statement ls a o)) st (whole_stands _ c.args.state b ls a o h.list) h.stack h.depth)

pub take_or-requires : goal.take_or-requires
take_or-requires c = word_is_there c.args.tokens.now c.args.at (codes "or") c.requires.there (sym c.is_next_word-else-is_next_word-2.ensures ∙ c.if-is_next_word-3.true)

pub returns-then-is_next_word-3-clause-read : goal.returns-then-is_next_word-3-clause-read
returns-then-is_next_word-3-clause-read c n b ls a o st k e h z =
    let v = c.args.tokens.now in
    subst (Gives v c.args.pool.now c.take_or.result) (sym (by_closing (parts_in v) n b ls a o st (codes "or") (ahead v c.args.at) (λ q d. refl) (sym c.is_next_word-else-is_next_word-2.ensures ∙ c.if-is_next_word-3.true)))
    (c.take_or.ensures.read c.args.pool.now (with_before b (last_statement ls a o)) st (whole_stands _ c.args.state b ls a o h.list) h.stack h.depth)

pub returns-else-is_next_word-3-clause-read : goal.returns-else-is_next_word-3-clause-read
returns-else-is_next_word-3-clause-read c n b ls a o st k e h z =
    let v = c.args.tokens.now in
    subst (Gives v c.read_another.new.pool c.read_another.result)
    (sym (by_another (parts_in v) n b ls a o st (ahead v c.args.at) (sym c.is_next_word.ensures ∙ c.if-is_next_word.false) (sym c.is_next_word-else-is_next_word.ensures ∙ c.if-is_next_word-2.false) (sym c.is_next_word-else-is_next_word-2.ensures ∙ c.if-is_next_word-3.false) z))
    (c.read_another.ensures.read n b ls a o st k e h)
