-- Proves what is asked of `read_statement`.
use Rattle.std.proofs.Common.{refl, sym, ◌∙◌, codes}
use Rattle.tla_tree.specs.Lexical.{open_brace}
use Rattle.expr_nodes.specs.Ahead.{ahead}
use Rattle.algorithm_reader.specs.PartsRead.{parts_in}
use Rattle.c_syntax.specs.StatesRead.{opens_by, block_step, label_step, simple_step, statement_step}
use Rattle.c_syntax.proofs.NextStatement.{by_word, by_block, by_label, by_simple, step_same, word_is_there, mark_is_there}
use Rattle.c_syntax.proofs.statements.read_statement.Goals as goal

pub returns-then-is_next_word-clause-read : goal.returns-then-is_next_word-clause-read
returns-then-is_next_word-clause-read c =
    let v = c.args.tokens.now in
    let i = c.args.at in
    step_same v _ _ c.args.state i _ (opens_by (codes "if")) statement_step c.open_if.ensures.read (λ n ls st. by_word (parts_in v) n ls st (codes "if") (ahead v i) (λ p d. refl) (sym c.is_next_word.ensures ∙ c.if-is_next_word.true))

pub returns-then-is_next_word-3-clause-read : goal.returns-then-is_next_word-3-clause-read
returns-then-is_next_word-3-clause-read c =
    let v = c.args.tokens.now in
    let i = c.args.at in
    step_same v _ _ c.args.state i _ (opens_by (codes "with")) statement_step c.open_with.ensures.read (λ n ls st. by_word (parts_in v) n ls st (codes "with") (ahead v i) (λ p d. refl) (sym c.is_next_word-else-is_next_word-2.ensures ∙ c.if-is_next_word-3.true))

pub returns-then-is_next_word-4-clause-read : goal.returns-then-is_next_word-4-clause-read
returns-then-is_next_word-4-clause-read c =
    let v = c.args.tokens.now in
    let i = c.args.at in
    step_same v _ _ c.args.state i _ (opens_by (codes "while")) statement_step c.open_while.ensures.read (λ n ls st. by_word (parts_in v) n ls st (codes "while") (ahead v i) (λ p d. refl) (sym c.is_next_word-else-is_next_word-3.ensures ∙ c.if-is_next_word-4.true))

pub returns-then-is_next_mark-clause-read : goal.returns-then-is_next_mark-clause-read
returns-then-is_next_mark-clause-read c =
    let v = c.args.tokens.now in
    let i = c.args.at in
    step_same v _ _ c.args.state i _ block_step statement_step (c.open_block.ensures.read _) (λ n ls st. by_block (parts_in v) n ls st (ahead v i) (sym c.is_next_mark.ensures ∙ c.if-is_next_mark.true))

pub returns-then-is_next_label-clause-read : goal.returns-then-is_next_label-clause-read
returns-then-is_next_label-clause-read c =
    let v = c.args.tokens.now in
    let i = c.args.at in
    step_same v _ _ c.args.state i _ label_step statement_step (c.read_label.ensures.read _) (λ n ls st. by_label (parts_in v) n ls st (ahead v i) (sym c.is_next_label.ensures ∙ c.if-is_next_label.true))

pub returns-else-is_next_label-clause-read : goal.returns-else-is_next_label-clause-read
returns-else-is_next_label-clause-read c =
    let v = c.args.tokens.now in
    let i = c.args.at in
    step_same v _ _ c.args.state i _ simple_step statement_step c.read_alone.ensures.read
    (λ n ls st. by_simple (parts_in v) n ls st (ahead v i) (sym c.is_next_word.ensures ∙ c.if-is_next_word.false) (sym c.is_next_word-else-is_next_word.ensures ∙ c.if-is_next_word-2.false) (sym c.is_next_word-else-is_next_word-2.ensures ∙ c.if-is_next_word-3.false) (sym c.is_next_word-else-is_next_word-3.ensures ∙ c.if-is_next_word-4.false)
    (sym c.is_next_mark.ensures ∙ c.if-is_next_mark.false) (sym c.is_next_label.ensures ∙ c.if-is_next_label.false))

pub open_with-requires-clause-there : goal.open_with-requires-clause-there
open_with-requires-clause-there c = word_is_there c.args.tokens.now c.args.at (codes "with") c.requires.there (sym c.is_next_word-else-is_next_word-2.ensures ∙ c.if-is_next_word-3.true)

pub open_block-requires : goal.open_block-requires
open_block-requires c = mark_is_there c.args.tokens.now c.args.at open_brace c.requires.there (sym c.is_next_mark.ensures ∙ c.if-is_next_mark.true)

pub returns-else-before_or-clause-read : goal.returns-else-before_or-clause-read
returns-else-before_or-clause-read c =
    let v = c.args.tokens.now in
    let i = c.args.at in
    step_same v _ _ c.args.state i _ (opens_by (codes "either")) statement_step (c.open_either.ensures.read _) (λ n ls st. by_word (parts_in v) n ls st (codes "either") (ahead v i) (λ p d. refl) (sym c.is_next_word-else-is_next_word.ensures ∙ c.if-is_next_word-2.true))
