use Rattle.std.proofs.Common.{sym, ◌∙◌}
use Rattle.tla_token.proofs.FirstBytes.{or_sign, without_sign}
use Rattle.tla_token.proofs.sign.marks_before.Goals as goal

pub returns-then-begins_pair : goal.returns-then-begins_pair
returns-then-begins_pair c = or_sign c.args.text.now c.requires.backslash c.requires.no_letter (sym c.begins_pair.ensures ∙ c.if-begins_pair.true)

pub returns-else-begins_pair : goal.returns-else-begins_pair
returns-else-begins_pair c = without_sign c.args.text.now c.requires.backslash c.requires.no_letter (sym c.begins_pair.ensures ∙ c.if-begins_pair.false)
