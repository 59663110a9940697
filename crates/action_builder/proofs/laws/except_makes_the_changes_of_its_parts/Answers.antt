-- Proves the law `except_makes_the_changes_of_its_parts`.
use Rattle.action_builder.proofs.Except.{except_settings}
use Rattle.action_builder.proofs.laws.except_makes_the_changes_of_its_parts.Goals as goal

pub returns : goal.returns
returns c = except_settings
