-- What is kept: the variables that were passed have their numbers.
use Rattle.std.proofs.Common.{take}
use Rattle.read_rules.specs.NumbersIn.{declared_in, AreNumbers}
use Rattle.read_rules.proofs.levels.number_variables.Given as goal

abbrev pub invariant-loop-i : goal.invariant-loop-i
invariant-loop-i l = AreNumbers l.numbers (declared_in (take l.i l.list))
