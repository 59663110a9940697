-- Proves what is asked of `read_after`.
use Rattle.std.proofs.Common.{ℕ, List, refl, sym, subst, ◌∙◌, codes, Result}
use Rattle.std.proofs.lemmas.Result.{err_from_is_err_and}
use Rattle.tla_token.specs.declared.token.Tokens.{Tokens}
use Rattle.tla_tree.specs.Tree.{Tree}
use Rattle.tla_tree.specs.Reader.{Out}
use Rattle.expr_nodes.specs.declared.cursor.Halt.{Halt}
use Rattle.expr_nodes.specs.ReadIn.{Told}
use Rattle.expr_nodes.specs.Ahead.{ahead}
use Rattle.pcal_tree.specs.GrammarP.{last_statement}
use Rattle.algorithm_reader.specs.PartsRead.{parts_in}
use Rattle.p_reading.specs.ReadStatements as reader
use Rattle.p_reading.specs.ReadStatements.{with_before}
use Rattle.p_syntax.specs.declared.open.Turn.{Turn}
use Rattle.p_syntax.specs.StatesRead.{TurnStands}
use Rattle.p_syntax.proofs.NextStatement.{word_is_there}
use Rattle.p_syntax.proofs.AfterStatement.{whole_stands, by_closing}
use Rattle.p_syntax.proofs.statements.read_after.Goals as goal

abbrev Gives : Tokens → List Tree → Result (Turn × ℕ) Halt → Out reader.Turn → Type 0
Gives v ts r o = Told (λ (x : Turn × ℕ) (t : reader.Turn). TurnStands ts x.0 t) (λ x. ahead v x.1) r o

pub take_end-requires : goal.take_end-requires
take_end-requires c = word_is_there c.args.tokens.now c.args.at (codes "end") c.requires.there (sym c.is_next_word.ensures ∙ c.if-is_next_word.true)

pub returns-then-is_next_word-clause-read : goal.returns-then-is_next_word-clause-read
returns-then-is_next_word-clause-read c n b ls a o st k e h =
    let v = c.args.tokens.now in
    let ts = c.args.pool.now in
    subst (Gives v ts c.take_end.result) (sym (by_closing (parts_in v) n b ls a o st (codes "end") (ahead v c.args.at) (λ q d. refl) (sym c.is_next_word.ensures ∙ c.if-is_next_word.true)))
    (c.take_end.ensures.read ts (with_before b (last_statement ls a o)) st (whole_stands ts c.args.state b ls a o h.list) h.stack)

pub returns-in_ok-next-clause-read : goal.returns-in_ok-next-clause-read
returns-in_ok-next-clause-read c n b ls a o st k e h = c.in_ok-next.ensures.read n b ls a o st k e h (sym c.is_next_word.ensures ∙ c.if-is_next_word.false)

pub returns-in_err-next-clause-read : goal.returns-in_err-next-clause-read
returns-in_err-next-clause-read c n b ls a o st k e h =
    let r = err_from_is_err_and c.from_residual.result c.from_residual.ensures.1 in
    rw (r.1, r.2) (c.in_err-next.ensures.read n b ls a o st k e h (sym c.is_next_word.ensures ∙ c.if-is_next_word.false))
