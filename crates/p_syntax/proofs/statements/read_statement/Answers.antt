-- Proves what is asked of `read_statement`.
use Rattle.std.proofs.Common.{refl, sym, ◌∙◌, codes}
use Rattle.expr_nodes.specs.Ahead.{ahead}
use Rattle.algorithm_reader.specs.PartsRead.{parts_in}
use Rattle.p_syntax.specs.StepsRead.{opens_by, label_step, simple_step, statement_step}
use Rattle.p_syntax.proofs.NextStatement.{by_word, by_label, by_simple, step_same, word_is_there}
use Rattle.p_syntax.proofs.statements.read_statement.Goals as goal

pub returns-then-is_next_word-clause-read : goal.returns-then-is_next_word-clause-read
returns-then-is_next_word-clause-read c =
    let v = c.args.tokens.now in
    let i = c.args.at in
    step_same v _ _ c.args.state i _ (opens_by (codes "if")) statement_step c.open_if.ensures.read (λ n b ls st. by_word (parts_in v) n b ls st (codes "if") (ahead v i) (λ p d. refl) (sym c.is_next_word.ensures ∙ c.if-is_next_word.true))

pub returns-then-is_next_word-2-clause-read : goal.returns-then-is_next_word-2-clause-read
returns-then-is_next_word-2-clause-read c =
    let v = c.args.tokens.now in
    let i = c.args.at in
    step_same v _ _ c.args.state i _ (opens_by (codes "either")) statement_step (c.open_either.ensures.read _) (λ n b ls st. by_word (parts_in v) n b ls st (codes "either") (ahead v i) (λ p d. refl) (sym c.is_next_word-else-is_next_word.ensures ∙ c.if-is_next_word-2.true))

pub returns-then-is_next_word-3-clause-read : goal.returns-then-is_next_word-3-clause-read
returns-then-is_next_word-3-clause-read c =
    let v = c.args.tokens.now in
    let i = c.args.at in
    step_same v _ _ c.args.state i _ (opens_by (codes "with")) statement_step c.open_with.ensures.read (λ n b ls st. by_word (parts_in v) n b ls st (codes "with") (ahead v i) (λ p d. refl) (sym c.is_next_word-else-is_next_word-2.ensures ∙ c.if-is_next_word-3.true))

pub returns-then-is_next_word-4-clause-read : goal.returns-then-is_next_word-4-clause-read
returns-then-is_next_word-4-clause-read c =
    let v = c.args.tokens.now in
    let i = c.args.at in
    step_same v _ _ c.args.state i _ (opens_by (codes "while")) statement_step c.open_while.ensures.read (λ n b ls st. by_word (parts_in v) n b ls st (codes "while") (ahead v i) (λ p d. refl) (sym c.is_next_word-else-is_next_word-3.ensures ∙ c.if-is_next_word-4.true))

pub returns-then-is_next_label-clause-read : goal.returns-then-is_next_label-clause-read
returns-then-is_next_label-clause-read c =
    let v = c.args.tokens.now in
    let i = c.args.at in
    step_same v _ _ c.args.state i _ label_step statement_step (c.read_label.ensures.read _) (λ n b ls st. by_label (parts_in v) n b ls st (ahead v i) (sym c.is_next_label.ensures ∙ c.if-is_next_label.true))

pub returns-else-is_next_label-clause-read : goal.returns-else-is_next_label-clause-read
returns-else-is_next_label-clause-read c =
    let v = c.args.tokens.now in
    let i = c.args.at in
    step_same v _ _ c.args.state i _ simple_step statement_step c.read_alone.ensures.read
    (λ n b ls st. by_simple (parts_in v) n b ls st (ahead v i) (sym c.is_next_word.ensures ∙ c.if-is_next_word.false) (sym c.is_next_word-else-is_next_word.ensures ∙ c.if-is_next_word-2.false) (sym c.is_next_word-else-is_next_word-2.ensures ∙ c.if-is_next_word-3.false) (sym c.is_next_word-else-is_next_word-3.ensures ∙ c.if-is_next_word-4.false)
    (sym c.is_next_label.ensures ∙ c.if-is_next_label.false))

pub open_either-requires : goal.open_either-requires
open_either-requires c = word_is_there c.args.tokens.now c.args.at (codes "either") c.requires.there (sym c.is_next_word-else-is_next_word.ensures ∙ c.if-is_next_word-2.true)

pub open_with-requires-clause-there : goal.open_with-requires-clause-there
open_with-requires-clause-there c = word_is_there c.args.tokens.now c.args.at (codes "with") c.requires.there (sym c.is_next_word-else-is_next_word-2.ensures ∙ c.if-is_next_word-3.true)
