-- What is kept: the names that were passed are there.
use Rattle.std.proofs.Common.{take}
use Rattle.read_rules.specs.Joins.{Joins}
use Rattle.read_rules.proofs.names.add_copies.Given as goal

abbrev pub invariant-loop-name : goal.invariant-loop-name
invariant-loop-name l = Joins l.fn.set.keys l.set.keys (take l.name-index l.names)
