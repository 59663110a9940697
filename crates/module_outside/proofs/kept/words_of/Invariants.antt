-- What the loop keeps: what is there, with the words that are left, is the whole.
use Rattle.std.proofs.Common.{◌≡◌, ◌++◌, drop}
use Rattle.tla_tree.specs.Tree.{words}
use Rattle.module_outside.proofs.kept.words_of.Given as goal

abbrev pub invariant-loop-one : goal.invariant-loop-one
invariant-loop-one l = l.all ++ words (drop l.one-index l.names) ≡ words l.names
