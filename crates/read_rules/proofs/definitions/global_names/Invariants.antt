-- What is kept: the names of the declarations that were passed are there.
use Rattle.std.proofs.Common.{take}
use Rattle.pcal_tree.proofs.SetLaws.{Same}
use Rattle.read_rules.specs.NumbersIn.{declared_in}
use Rattle.read_rules.proofs.definitions.global_names.Given as goal

abbrev pub invariant-loop-i : goal.invariant-loop-i
invariant-loop-i l = Same l.names (declared_in (take l.i l.list))
