-- Labels to which steps go, in memory, and the words that they stand for ("A PlusCal User's Manual", section 3.7, labels).
use Rattle.std.specs.Prelude.{codes}
use Rattle.tla_tree.specs.Tree.{Word}
use Rattle.pcal_tree.specs.Run.{unlabelled}
use Rattle.step_spots.specs.declared.target.Target.{Target}
use Rattle.step_spots.specs.declared.target.Target.TheVariants as target

abbrev pub target_word : Target → Word
target_word target.Nowhere = unlabelled
target_word (target.Label x) = x.now
target_word target.Done = codes "Done"
target_word target.Error = codes "Error"
