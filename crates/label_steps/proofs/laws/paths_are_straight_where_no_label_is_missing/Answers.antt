-- Proves the law.
use Rattle.label_steps.proofs.StraightLaws.{twice_straight}
use Rattle.label_steps.proofs.laws.paths_are_straight_where_no_label_is_missing.Goals as goal

pub returns : goal.returns
returns c = twice_straight
