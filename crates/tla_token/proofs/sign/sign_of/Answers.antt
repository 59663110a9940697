use Rattle.std.proofs.Common.{◌∙◌}
use Rattle.tla_token.proofs.sign.sign_of.Goals as goal

pub returns-else-is_empty : goal.returns-else-is_empty
returns-else-is_empty c = c.first_spelled.ensures ∙ c.signs_like.ensures
