-- What is kept: the names that were passed are copied.
use Rattle.std.proofs.Common.{◌≡◌, take}
use Rattle.tla_tree.specs.Tree.{words}
use Rattle.name_rules.proofs.names.without_places.Given as goal

abbrev pub invariant-loop-one : goal.invariant-loop-one
invariant-loop-one l = l.copies.items ≡ words (take l.one-index l.names)
