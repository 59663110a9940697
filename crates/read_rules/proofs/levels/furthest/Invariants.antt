-- What is kept: what is left of the names still gives the whole.
use Rattle.std.proofs.Common.{◌≡◌, max, List, drop}
use Rattle.tla_tree.specs.Tree.{Word}
use Rattle.read_rules.specs.Levels.{Levels, furthest}
use Rattle.read_rules.specs.NumbersIn.{AreNumbers, AreLevels}
use Rattle.read_rules.proofs.levels.furthest.Given as goal

abbrev pub invariant-loop-one : goal.invariant-loop-one
invariant-loop-one l = (gs : List Word) (ls : Levels) → AreNumbers l.numbers gs → AreLevels l.levels ls → max l.so_far (furthest gs ls (drop l.one-index l.names)) ≡ furthest gs ls l.names
