-- Proves the law `the_actions_have_the_written_names`.
use Rattle.translation.proofs.ActionTitles.{action_titles}
use Rattle.translation.proofs.laws.the_actions_have_the_written_names.Goals as goal

pub returns : goal.returns
returns c = λ b o g. action_titles o g
