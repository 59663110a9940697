use Rattle.tla_token.proofs.sign.sign_at.Goals as goal
use Rattle.std.proofs.Common.{◌∙◌}

pub returns-else-is_empty : goal.returns-else-is_empty
returns-else-is_empty c = c.first_at.ensures ∙ c.signs_before.ensures
