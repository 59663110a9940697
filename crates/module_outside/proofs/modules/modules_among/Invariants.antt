-- What is kept while names are looked at.
use Rattle.std.proofs.Common.{take}
use Rattle.tla_tree.specs.Tree.{words}
use Rattle.module_outside.specs.ModulesIn.{AreModules}
use Rattle.module_outside.proofs.modules.modules_among.Given as goal

abbrev pub invariant-loop-one : goal.invariant-loop-one
invariant-loop-one l = AreModules l.modules (words (take l.one-index l.names))
