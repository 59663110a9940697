-- Proves the law.
use Rattle.label_steps.proofs.GatherLaws.{gathered_is}
use Rattle.label_steps.proofs.laws.macros_are_gathered_along_straight_paths.Goals as goal

pub returns : goal.returns
returns c = gathered_is
