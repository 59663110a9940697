-- What is kept: the words of those that were passed.
use Rattle.std.proofs.Common.{◌≡◌, take}
use Rattle.tla_tree.specs.Tree.{words}
use Rattle.module_builder.proofs.definitions.names.Given as goal

abbrev pub invariant-loop-one : goal.invariant-loop-one
invariant-loop-one l = l.names ≡ words (take l.one-index l.list)
