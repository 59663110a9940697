-- What is kept: the names that were passed are there besides.
use Rattle.std.proofs.Common.{take}
use Rattle.read_rules.specs.Joins.{Joins}
use Rattle.read_rules.proofs.names.Names.add_all.Given as goal

abbrev pub invariant-loop-name : goal.invariant-loop-name
invariant-loop-name l = Joins l.fn.self l.self (take l.name-index l.other)
