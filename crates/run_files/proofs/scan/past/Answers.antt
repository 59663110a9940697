-- Proves what is asked of `past`.
use Rattle.std.proofs.Common.{sym, ◌∙◌}
use Rattle.run_files.proofs.Scanned.{past_none, past_not, past_same, past_other}
use Rattle.run_files.proofs.scan.past.Goals as goal

pub returns-then-not-is_token-clause-value : goal.returns-then-not-is_token-clause-value
returns-then-not-is_token-clause-value c =
    past_not c.args.word.now c.args.text.now c.args.at c.in-Some.part c.in-Some.ensures.part (sym c.is_token.ensures ∙ c.if-not-is_token.true)

pub returns-then-is-clause-value : goal.returns-then-is-clause-value
returns-then-is-clause-value c =
    past_same c.args.word.now c.args.text.now c.args.at c.in-Some.part c.in-Some.ensures.part (sym c.is_token.ensures ∙ c.if-not-is_token.false) (sym c.is.ensures ∙ c.if-is.true)

pub returns-else-is-clause-value : goal.returns-else-is-clause-value
returns-else-is-clause-value c =
    past_other c.args.word.now c.args.text.now c.args.at c.in-Some.part c.in-Some.ensures.part (sym c.is_token.ensures ∙ c.if-not-is_token.false) (sym c.is.ensures ∙ c.if-is.false)

pub returns-in-None-clause-value : goal.returns-in-None-clause-value
returns-in-None-clause-value c = past_none c.args.word.now c.args.text.now c.args.at c.in-None.ensures.part
