-- What is kept: the names of those that were passed are added.
use Rattle.std.proofs.Common.{take}
use Rattle.algorithm_limits.specs.DepthsIn.{Hides}
use Rattle.read_rules.specs.NumbersIn.{declared_in}
use Rattle.read_rules.proofs.declared.add_declared.Given as goal

abbrev pub invariant-loop-i : goal.invariant-loop-i
invariant-loop-i l = Hides l.fn.names l.names (declared_in (take l.i l.list))
