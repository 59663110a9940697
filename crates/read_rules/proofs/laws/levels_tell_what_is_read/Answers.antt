-- Levels tell it.
use Rattle.read_rules.proofs.LevelsTell.{level_told}
use Rattle.read_rules.proofs.laws.levels_tell_what_is_read.Goals as goal

pub returns : goal.returns
returns c = λ gs ds x i. level_told gs i ds x
