use Rattle.std.proofs.Common.{sym, ◌∙◌}
use Rattle.module_split.proofs.BarFronts.{byte_front, unbarred_front}
use Rattle.module_split.proofs.bars.barred.Goals as goal

pub returns-then-is_before_bar-clause-part : goal.returns-then-is_before_bar-clause-part
returns-then-is_before_bar-clause-part c =
    c.lexeme_at.ensures.part ∙ byte_front c.args.text.now (sym c.is_rule.ensures ∙ c.if-is_rule.false) (sym c.is_before_bar.ensures ∙ c.if-is_before_bar.true)

pub returns-else-is_before_bar-clause-part : goal.returns-else-is_before_bar-clause-part
returns-else-is_before_bar-clause-part c =
    c.lexeme_at-else-is_before_bar.ensures.part ∙ unbarred_front c.args.text.now (sym c.is_rule.ensures ∙ c.if-is_rule.false) (sym c.is_before_bar.ensures ∙ c.if-is_before_bar.false)
