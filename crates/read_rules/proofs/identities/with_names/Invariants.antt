-- What is kept: the first of what was found and of the offences of the names that were passed.
use Rattle.std.proofs.Common.{List}
use Rattle.tla_tree.specs.Tree.{Word}
use Rattle.read_rules.specs.Levels.{Levels}
use Rattle.read_rules.specs.EarlyReads.{offending_name}
use Rattle.read_rules.specs.NumbersIn.{AreNumbers, AreLevels}
use Rattle.read_rules.proofs.FoundLaws.{Found}
use Rattle.read_rules.proofs.identities.with_names.Given as goal

abbrev pub invariant-loop-one : goal.invariant-loop-one
invariant-loop-one l = (gs : List Word) (ls : Levels) → AreNumbers l.numbers gs → AreLevels l.levels ls → Found (offending_name gs ls) l.names l.one-index l.fn.so_far l.found
