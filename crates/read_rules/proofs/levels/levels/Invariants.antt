-- What is kept: the definitions that were passed have their levels.
use Rattle.std.proofs.Common.{List, take, reverse}
use Rattle.tla_tree.specs.Tree.{Word}
use Rattle.pcal_tree.specs.InMemory.{definitions_at}
use Rattle.read_rules.specs.Levels.{levels}
use Rattle.read_rules.specs.NumbersIn.{AreNumbers, AreLevels}
use Rattle.read_rules.proofs.levels.levels.Given as goal

abbrev pub invariant-loop-definition : goal.invariant-loop-definition
invariant-loop-definition l = (gs : List Word) → AreNumbers l.numbers gs → AreLevels l.levels (levels gs (reverse (definitions_at l.pool (take l.definition-index l.definitions))))
